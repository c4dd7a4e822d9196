-- How many lines a course leaves without an answer, and how many Banners it tells.
use Rattle.std.proofs.Common.{◌≡◌, ℕ, suc, ◌+◌, ◌≤◌, Bool, true, false, List, [], ◌∷◌, ◌++◌, length, map, take, drop, length-append, length-take-le, refl, sym, ap, ◌∙◌, arith}
use Rattle.std.proofs.lemmas.List.{length-map, take-append-drop}
use Rattle.run_rules.specs.declared.State.{State}
use Rattle.run_rules.specs.Lines.{whole_lines}
use Rattle.run_rules.specs.Work.{tells}
use Rattle.run_texts.specs.Courses.{Passed, Reset, behind_cut, behind_the_reset, lines_in}
use Rattle.run_texts.specs.Courses.Passed.{a_line, a_broken, a_cut, a_reset}
use Rattle.run_texts.specs.Points.{Point, opening, behind_line, behind_broken}
use Rattle.run_texts.specs.Sent.{Sent, waiting_in, behind_reset}
use Rattle.run_texts.specs.Sent.Sent.{a_text, a_stop}
use Rattle.run_texts.specs.SoFar.{LeadsTo}
use Rattle.run_texts.specs.Told.{told_in, told_at_reset}
use Rattle.run_texts.proofs.Banners.{quiet_none}
use Rattle.run_texts.proofs.Quiet.{line_quiet}
use Rattle.status_report.specs.Answering.{answers_in, banners_in}
use Rattle.status_report.proofs.Banners.{banners_on}
use Rattle.step_line.specs.Logs.{NewestFirst}
use Rattle.board_journal.specs.Steps.{answered_of}
use Rattle.board_epochs.specs.Epochs.{Closed, AreClosed, opening_behind, point_of, reset_of, ticks_made}
use Rattle.epoch_courses.specs.Course.{closed_course, made_at_halt, passed_at_reset}
use Rattle.epoch_courses.specs.Taken.{texts_in, bytes_with, closed_texts}
use Rattle.epoch_courses.proofs.Chain.{closed_lead}
use Rattle.epoch_courses.proofs.Halted.{known_made}
use Rattle.epoch_links.specs.Drops.{dropped_by, lines_among}
use Rattle.epoch_law.specs.Ran.{lost_in}
use Rattle.epoch_law.proofs.Dropping.{NoResets, answered_there}

-- ---- by the numbers of lines

-- each line that is passed, or lost, has its number
pub numbers : (p last : Point) (sent left : List Sent) (ps : List Passed) → LeadsTo p sent ps last left → last.before.number ≡ p.before.number + (length (lines_in ps) + lost_in ps)
numbers p last sent left [] f = let e = ap (λ (x : Point). x.before.number) f.0 in omega (arith, e)
numbers p last sent left (a_cut k at ∷ ps) f = numbers (behind_cut at p) last sent left ps f.1
numbers p last sent left (a_reset r ∷ ps) f =
    let rest = numbers (behind_the_reset r p) last (behind_reset sent) left ps f.1 in let n = f.0.number in omega (arith, rest, n)
numbers p last [] left (a_line o ∷ ps) f = absurd f
numbers p last (a_stop ∷ sent) left (a_line o ∷ ps) f = absurd f
numbers p last (a_text line ∷ sent) left (a_line o ∷ ps) f = let rest = numbers (behind_line p line o) last sent left ps f.1 in omega (arith, rest)
numbers p last [] left (a_broken o ∷ ps) f = absurd f
numbers p last (a_stop ∷ sent) left (a_broken o ∷ ps) f = absurd f
numbers p last (a_text line ∷ sent) left (a_broken o ∷ ps) f = let rest = numbers (behind_broken p o) last sent left ps f.1 in omega (arith, rest)

-- how many lines were sent
abbrev texts : List Sent → ℕ
texts [] = 0
texts (a_text line ∷ sent) = suc (texts sent)
texts (a_stop ∷ sent) = texts sent

texts_on : (xs ys : List Sent) → texts (xs ++ ys) ≡ texts xs + texts ys
texts_on [] ys = omega arith
texts_on (a_text line ∷ xs) ys = let rest = texts_on xs ys in omega (arith, rest)
texts_on (a_stop ∷ xs) ys = texts_on xs ys

texts_of : (lines : List (List ℕ)) → texts (map a_text lines) ≡ length lines
texts_of [] = refl
texts_of (l ∷ ls) = let rest = texts_of ls in omega (arith, rest)

-- those that wait for a reset, and those behind it
texts_parted : (sent : List Sent) → texts sent ≡ length (waiting_in sent) + texts (behind_reset sent)
texts_parted [] = refl
texts_parted (a_text line ∷ sent) = let rest = texts_parted sent in omega (arith, rest)
texts_parted (a_stop ∷ sent) = omega arith

-- each of them has its number
counted : (p last : Point) (sent left : List Sent) (ps : List Passed) → LeadsTo p sent ps last left → last.before.number + texts left ≡ p.before.number + texts sent
counted p last sent left [] f = let e = ap (λ (x : Point). x.before.number) f.0 in let s = ap texts f.1 in omega (arith, e, s)
counted p last sent left (a_cut k at ∷ ps) f = counted (behind_cut at p) last sent left ps f.1
counted p last sent left (a_reset r ∷ ps) f =
    let rest = counted (behind_the_reset r p) last (behind_reset sent) left ps f.1 in let n = f.0.number in let d = f.0.dropped in let both = texts_parted sent in
    omega (arith, rest, n, d, both)
counted p last [] left (a_line o ∷ ps) f = absurd f
counted p last (a_stop ∷ sent) left (a_line o ∷ ps) f = absurd f
counted p last (a_text line ∷ sent) left (a_line o ∷ ps) f = let rest = counted (behind_line p line o) last sent left ps f.1 in omega (arith, rest)
counted p last [] left (a_broken o ∷ ps) f = absurd f
counted p last (a_stop ∷ sent) left (a_broken o ∷ ps) f = absurd f
counted p last (a_text line ∷ sent) left (a_broken o ∷ ps) f = let rest = counted (behind_broken p o) last sent left ps f.1 in omega (arith, rest)

-- ---- closed epochs

pub lost_on : (xs ys : List Passed) → lost_in (xs ++ ys) ≡ lost_in xs + lost_in ys
lost_on [] ys = omega arith
lost_on (a_line o ∷ xs) ys = lost_on xs ys
lost_on (a_cut k at ∷ xs) ys = lost_on xs ys
lost_on (a_broken o ∷ xs) ys = let rest = lost_on xs ys in omega (arith, rest)
lost_on (a_reset r ∷ xs) ys = let rest = lost_on xs ys in omega (arith, rest)

lines_more : (xs ys : List Passed) → length (lines_in (xs ++ ys)) ≡ length (lines_in xs) + length (lines_in ys)
lines_more [] ys = omega arith
lines_more (a_line o ∷ xs) ys = let rest = lines_more xs ys in omega (arith, rest)
lines_more (a_cut k at ∷ xs) ys = lines_more xs ys
lines_more (a_broken o ∷ xs) ys = lines_more xs ys
lines_more (a_reset r ∷ xs) ys = lines_more xs ys

dropped_length : (n : ℕ) (lines : List (List ℕ)) → n ≤ length lines → length (drop n lines) + n ≡ length lines
dropped_length n lines few =
    let both = ap length (take-append-drop n lines) in
    let parts = length-append (take n lines) (drop n lines) in
    let first = length-take-le n lines few in
    omega (arith, both, parts, first)

-- what was passed of all epochs, and how many lines came to them
closed_total : (blocks : ℕ) (state : State) (es : NewestFirst Closed) → AreClosed blocks state es → length (lines_in (closed_course blocks state es)) + lost_in (closed_course blocks state es) ≡ texts (closed_texts es)
closed_total blocks state es c =
    let leads = closed_lead blocks state es [] c in
    let n = numbers (opening state) (point_of (opening_behind blocks state es)) _ [] (closed_course blocks state es) leads in
    let t = counted (opening state) (point_of (opening_behind blocks state es)) _ [] (closed_course blocks state es) leads in
    let none = texts_on (closed_texts es) [] in
    omega (arith, n, t, none)

pub closed_lost : (blocks : ℕ) (state : State) (es : NewestFirst Closed) → AreClosed blocks state es → lost_in (closed_course blocks state es) ≡ lines_among (map dropped_by es)
closed_lost blocks state [] c = refl
closed_lost blocks state (e ∷ es) c =
    let made = made_at_halt (ticks_made es) e.work in
    let first = opening_behind blocks state es in
    let passed = passed_at_reset made first e.journal in
    let lines = whole_lines (bytes_with e.journal e.work) in
    let r = reset_of (ticks_made es) first e.journal e.work in
    let now = closed_total blocks state (e ∷ es) c in
    let before = closed_total blocks state es c.1 in
    let lost = lost_on (closed_course blocks state es) (passed ++ a_reset r ∷ []) in
    let many = lines_more (closed_course blocks state es) (passed ++ a_reset r ∷ []) in
    let passed_lost = lost_on passed (a_reset r ∷ []) in
    let passed_many = lines_more passed (a_reset r ∷ []) in
    let came = texts_on (closed_texts es) (texts_in (bytes_with e.journal e.work) ++ a_stop ∷ []) in
    let came_here = texts_on (texts_in (bytes_with e.journal e.work)) (a_stop ∷ []) in
    let own = texts_of lines in
    let told = answered_there made first e c.0.resetting.epoch c.0.resetting.may (known_made blocks state e es c) [] in
    let here = dropped_length (answers_in (answered_of e.journal)) lines (omega (arith, now, before, lost, many, passed_lost, passed_many, came, came_here, own, told)) in
    let rest = closed_lost blocks state es c.1 in
    omega (arith, now, before, lost, many, passed_lost, passed_many, came, came_here, own, told, here, rest)

-- ---- the open epoch, where each line that was begun is answered

still_open : (p last : Point) (sent left : List Sent) (ps : List Passed) → NoResets ps → LeadsTo p sent ps last left → p.unanswered ≡ true → last.unanswered ≡ true
still_open p last sent left [] none f begun = ap (λ (x : Point). x.unanswered) f.0 ∙ begun
still_open p last sent left (a_cut k at ∷ ps) none f begun = still_open (behind_cut at p) last sent left ps none f.1 begun
still_open p last sent left (a_reset r ∷ ps) none f begun = absurd none
still_open p last [] left (a_line o ∷ ps) none f begun = absurd f
still_open p last (a_stop ∷ sent) left (a_line o ∷ ps) none f begun = absurd f
still_open p last (a_text line ∷ sent) left (a_line o ∷ ps) none f begun = absurd (let e = sym f.0.answered ∙ begun in cc)
still_open p last [] left (a_broken o ∷ ps) none f begun = absurd f
still_open p last (a_stop ∷ sent) left (a_broken o ∷ ps) none f begun = absurd f
still_open p last (a_text line ∷ sent) left (a_broken o ∷ ps) none f begun = absurd (let e = sym f.0.answered ∙ begun in cc)

none_lost : (p last : Point) (sent left : List Sent) (ps : List Passed) → NoResets ps → LeadsTo p sent ps last left → last.unanswered ≡ false → lost_in ps ≡ 0
none_lost p last sent left [] none f done = refl
none_lost p last sent left (a_cut k at ∷ ps) none f done = none_lost (behind_cut at p) last sent left ps none f.1 done
none_lost p last sent left (a_reset r ∷ ps) none f done = absurd none
none_lost p last [] left (a_line o ∷ ps) none f done = absurd f
none_lost p last (a_stop ∷ sent) left (a_line o ∷ ps) none f done = absurd f
none_lost p last (a_text line ∷ sent) left (a_line o ∷ ps) none f done = none_lost (behind_line p line o) last sent left ps none f.1 done
none_lost p last [] left (a_broken o ∷ ps) none f done = absurd f
none_lost p last (a_stop ∷ sent) left (a_broken o ∷ ps) none f done = absurd f
none_lost p last (a_text line ∷ sent) left (a_broken o ∷ ps) none f done =
    absurd (let e = sym (still_open (behind_broken p o) last sent left ps none f.1 refl) ∙ done in cc)

pub all_lost : (blocks : ℕ) (state : State) (es : NewestFirst Closed) (p last : Point) (sent left : List Sent) (ps : List Passed) → AreClosed blocks state es → NoResets ps → LeadsTo p sent ps last left → last.unanswered ≡ false
    → lost_in (closed_course blocks state es ++ ps) ≡ lines_among (map dropped_by es)
all_lost blocks state es p last sent left ps c none f done =
    let both = lost_on (closed_course blocks state es) ps in let closed = closed_lost blocks state es c in let rest = none_lost p last sent left ps none f done in omega (arith, both, closed, rest)

-- ---- Banners

abbrev resets_passed : List Passed → ℕ
resets_passed [] = 0
resets_passed (a_line o ∷ ps) = resets_passed ps
resets_passed (a_broken o ∷ ps) = resets_passed ps
resets_passed (a_cut k at ∷ ps) = resets_passed ps
resets_passed (a_reset r ∷ ps) = resets_passed ps + 1

reset_banner : (r : Reset) (alarm locked : Bool) → r.alarm ≡ alarm → r.locked ≡ locked → banners_in (told_at_reset r) ≡ 1
reset_banner r true true a l = rw (a, l) refl
reset_banner r true false a l = rw (a, l) refl
reset_banner r false true a l = rw (a, l) refl
reset_banner r false false a l = rw (a, l) refl

course_banners : (p last : Point) (sent left : List Sent) (ps : List Passed) → LeadsTo p sent ps last left → banners_in (told_in ps) ≡ resets_passed ps
course_banners p last sent left [] f = refl
course_banners p last sent left (a_cut k at ∷ ps) f = course_banners (behind_cut at p) last sent left ps f.1
course_banners p last sent left (a_reset r ∷ ps) f =
    let both = banners_on (told_at_reset r) (told_in ps) in
    let here = reset_banner r r.alarm r.locked refl refl in
    let rest = course_banners (behind_the_reset r p) last (behind_reset sent) left ps f.1 in
    omega (arith, both, here, rest)
course_banners p last [] left (a_line o ∷ ps) f = absurd f
course_banners p last (a_stop ∷ sent) left (a_line o ∷ ps) f = absurd f
course_banners p last (a_text line ∷ sent) left (a_line o ∷ ps) f =
    let both = banners_on (tells o.work) (told_in ps) in
    let here = quiet_none (tells o.work) (line_quiet true p line o f.0.becomes) in
    let rest = course_banners (behind_line p line o) last sent left ps f.1 in
    omega (arith, both, here, rest)
course_banners p last [] left (a_broken o ∷ ps) f = absurd f
course_banners p last (a_stop ∷ sent) left (a_broken o ∷ ps) f = absurd f
course_banners p last (a_text line ∷ sent) left (a_broken o ∷ ps) f = course_banners (behind_broken p o) last sent left ps f.1

resets_on : (xs ys : List Passed) → resets_passed (xs ++ ys) ≡ resets_passed xs + resets_passed ys
resets_on [] ys = omega arith
resets_on (a_line o ∷ xs) ys = resets_on xs ys
resets_on (a_cut k at ∷ xs) ys = resets_on xs ys
resets_on (a_broken o ∷ xs) ys = resets_on xs ys
resets_on (a_reset r ∷ xs) ys = let rest = resets_on xs ys in omega (arith, rest)

no_resets : (ps : List Passed) → NoResets ps → resets_passed ps ≡ 0
no_resets [] none = refl
no_resets (a_line o ∷ ps) none = no_resets ps none
no_resets (a_broken o ∷ ps) none = no_resets ps none
no_resets (a_cut k at ∷ ps) none = no_resets ps none
no_resets (a_reset r ∷ ps) none = absurd none

-- each epoch that is closed is passed by one reset
closed_resets : (blocks : ℕ) (state : State) (es : NewestFirst Closed) → ((made : ℕ) (e : Closed) (es : NewestFirst Closed) → NoResets (passed_at_reset made (opening_behind blocks state es) e.journal)) → resets_passed (closed_course blocks state es) ≡ length es
closed_resets blocks state [] none = refl
closed_resets blocks state (e ∷ es) none =
    let passed = passed_at_reset (made_at_halt (ticks_made es) e.work) (opening_behind blocks state es) e.journal in
    let r = reset_of (ticks_made es) (opening_behind blocks state es) e.journal e.work in
    let both = resets_on (closed_course blocks state es) (passed ++ a_reset r ∷ []) in
    let here = resets_on passed (a_reset r ∷ []) in
    let zero = no_resets passed (none (made_at_halt (ticks_made es) e.work) e es) in
    let rest = closed_resets blocks state es none in
    omega (arith, both, here, zero, rest)

pub all_banners : (blocks : ℕ) (state : State) (es : NewestFirst Closed) (p last : Point) (sent left : List Sent) (ps : List Passed) → ((made : ℕ) (e : Closed) (es : NewestFirst Closed) → NoResets (passed_at_reset made (opening_behind blocks state es) e.journal)) → NoResets ps
    → LeadsTo p sent (closed_course blocks state es ++ ps) last left → banners_in (told_in (closed_course blocks state es ++ ps)) ≡ length (map dropped_by es)
all_banners blocks state es p last sent left ps each none f =
    let told = course_banners p last sent left (closed_course blocks state es ++ ps) f in
    let both = resets_on (closed_course blocks state es) ps in
    let closed = closed_resets blocks state es each in
    let rest = no_resets ps none in
    let same = length-map es dropped_by in
    omega (arith, told, both, closed, rest, same)
