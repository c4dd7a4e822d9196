-- The resets of a board's course drop the lines of their epochs that have no answer.
use Rattle.std.proofs.Common.{◌≡◌, ℕ, ◌+◌, ◌≤◌, Bool, true, false, cond, List, [], ◌∷◌, ◌++◌, length, map, drop, refl, sym, ap, ◌∙◌, subst, append_assoc, arith}
use Rattle.std.specs.List.{AllByRecursion}
use Rattle.std.proofs.lemmas.List.Sums.{sum_by-cons}
use Rattle.flight.specs.Places.{end_from}
use Rattle.run_rules.specs.declared.State.{State}
use Rattle.run_rules.specs.Lines.{ended, whole_lines}
use Rattle.run_rules.specs.Told.{limits_in}
use Rattle.run_rules.specs.Work.{Outcome, is_limit}
use Rattle.run_texts.specs.Besides.{DropsAreFew}
use Rattle.run_texts.specs.Courses.{Passed, behind_cut, behind_the_reset, lines_in}
use Rattle.run_texts.specs.Courses.Passed.{a_line, a_broken, a_cut, a_reset}
use Rattle.run_texts.specs.Points.{Point, behind_line, behind_broken}
use Rattle.run_texts.specs.Sent.{Sent, behind_reset}
use Rattle.run_texts.specs.Sent.Sent.{a_text, a_stop}
use Rattle.run_texts.specs.SoFar.{LeadsTo}
use Rattle.run_texts.specs.Told.{told_in}
use Rattle.status_report.specs.Answering.{answers_in}
use Rattle.status_report.proofs.Answered.{answers_on}
use Rattle.step_line.specs.Logs.{NewestFirst}
use Rattle.board_journal.specs.Openings.{Opening}
use Rattle.board_journal.specs.Ports.{taken_in}
use Rattle.board_journal.specs.Steps.{Journal, port_log, answered_of, given_of, known_of, lines_of}
use Rattle.board_journal.specs.Steps.Step.{began, cut}
use Rattle.board_rules.proofs.Opening.{greets_unanswered, opened}
use Rattle.board_rules.proofs.Plain.{answers_without}
use Rattle.board_epochs.specs.Epochs.{Closed, AreClosed, IsEpoch, opening_behind, point_of, reset_of, ticks_made}
use Rattle.board_epochs.specs.Resets.{MayReset}
use Rattle.epoch_courses.specs.Course.{is_made, made_at_halt, passed_by, passed_at_reset, closed_course, is_unanswered, point_at_reset}
use Rattle.epoch_courses.specs.Taken.{texts_in, bytes_with, bytes_behind, closed_texts}
use Rattle.epoch_courses.proofs.Halted.{known_made}
use Rattle.epoch_courses.proofs.Resets.{comes_there}
use Rattle.epoch_courses.proofs.Telling.{told_at_end}
use Rattle.epoch_courses.proofs.Texts.{texts_behind}
use Rattle.epoch_effects.proofs.Once.{course_answers}
use Rattle.epoch_links.specs.Drops.{AreCuts, PassesLines, dropped_by}
use Rattle.epoch_links.proofs.Courses.{course_drops}
use Rattle.epoch_law.proofs.Leading.{calm_before}

-- ---- one epoch, which no reset parts

abbrev pub NoResets : List Passed → Type 0
NoResets [] = Unit {0}
NoResets (a_reset r ∷ ps) = ⊥
NoResets (_ ∷ ps) = NoResets ps

no_resets_on : (ps qs : List Passed) → NoResets ps → NoResets qs → NoResets (ps ++ qs)
no_resets_on [] qs a b = b
no_resets_on (a_line o ∷ ps) qs a b = no_resets_on ps qs a b
no_resets_on (a_broken o ∷ ps) qs a b = no_resets_on ps qs a b
no_resets_on (a_cut k at ∷ ps) qs a b = no_resets_on ps qs a b
no_resets_on (a_reset r ∷ ps) qs a b = absurd a

one_line : (t : Bool) (o : Outcome) → NoResets (cond t (a_broken o) (a_line o) ∷ [])
one_line true o = tt
one_line false o = tt

one_cut : (t : Bool) (p : Passed) → NoResets (p ∷ []) → NoResets (cond t (p ∷ []) [])
one_cut true p none = none
one_cut false p none = tt

pub none_passed : (broken : Bool) (made : ℕ) (first : Opening) (h : Journal) → NoResets (passed_by broken made first h)
none_passed broken made first [] = tt
none_passed broken made first (began o ∷ h) = no_resets_on (passed_by false made first h) (cond broken (a_broken o) (a_line o) ∷ []) (none_passed false made first h) (one_line broken o)
none_passed broken made first (cut k ∷ h) =
    no_resets_on (passed_by broken made first h) (cond (is_made made h) (a_cut k (end_from first.place (given_of h)) ∷ []) []) (none_passed broken made first h) (one_cut (is_made made h) (a_cut k (end_from first.place (given_of h))) tt)
none_passed broken made first (_ ∷ h) = none_passed broken made first h

-- of an epoch that goes on nothing is dropped
pub none_dropped : (room taken : ℕ) (p last : Point) (sent left : List Sent) (ps : List Passed) → NoResets ps → LeadsTo p sent ps last left → DropsAreFew room taken sent ps
none_dropped room taken p last sent left [] none f = tt
none_dropped room taken p last sent left (a_cut k at ∷ ps) none f = none_dropped room taken (behind_cut at p) last sent left ps none f.1
none_dropped room taken p last sent left (a_reset r ∷ ps) none f = absurd none
none_dropped room taken p last [] left (a_line o ∷ ps) none f = absurd f
none_dropped room taken p last (a_stop ∷ sent) left (a_line o ∷ ps) none f = absurd f
none_dropped room taken p last (a_text line ∷ sent) left (a_line o ∷ ps) none f = none_dropped room 0 (behind_line p line o) last sent left ps none f.1
none_dropped room taken p last [] left (a_broken o ∷ ps) none f = absurd f
none_dropped room taken p last (a_stop ∷ sent) left (a_broken o ∷ ps) none f = absurd f
none_dropped room taken p last (a_text line ∷ sent) left (a_broken o ∷ ps) none f = none_dropped room (length line + 1) (behind_broken p o) last sent left ps none f.1

-- ---- one that a reset ends

-- behind a line without its answer only cuts come
only_cuts : (p last : Point) (sent left : List Sent) (ps : List Passed) → NoResets ps → LeadsTo p sent ps last left → p.unanswered ≡ true → AreCuts ps
only_cuts p last sent left [] none f begun = tt
only_cuts p last sent left (a_cut k at ∷ ps) none f begun = only_cuts (behind_cut at p) last sent left ps none f.1 begun
only_cuts p last sent left (a_reset r ∷ ps) none f begun = absurd none
only_cuts p last [] left (a_line o ∷ ps) none f begun = absurd f
only_cuts p last (a_stop ∷ sent) left (a_line o ∷ ps) none f begun = absurd f
only_cuts p last (a_text line ∷ sent) left (a_line o ∷ ps) none f begun = absurd (let e = sym f.0.answered ∙ begun in cc)
only_cuts p last [] left (a_broken o ∷ ps) none f begun = absurd f
only_cuts p last (a_stop ∷ sent) left (a_broken o ∷ ps) none f begun = absurd f
only_cuts p last (a_text line ∷ sent) left (a_broken o ∷ ps) none f begun = absurd (let e = sym f.0.answered ∙ begun in cc)

cuts_answer_none : (ps : List Passed) → AreCuts ps → lines_in ps ≡ []
cuts_answer_none [] cuts = refl
cuts_answer_none (a_cut k at ∷ ps) cuts = cuts_answer_none ps cuts
cuts_answer_none (a_line o ∷ ps) cuts = absurd cuts
cuts_answer_none (a_broken o ∷ ps) cuts = absurd cuts
cuts_answer_none (a_reset r ∷ ps) cuts = absurd cuts

-- it answers the first of its lines
passes : (p last : Point) (lines : List (List ℕ)) (more left : List Sent) (ps : List Passed) → NoResets ps → LeadsTo p (map a_text lines ++ a_stop ∷ more) ps last left → PassesLines lines ps (drop (length (lines_in ps)) lines)
passes p last lines more left [] none f = refl
passes p last lines more left (a_cut k at ∷ ps) none f = passes (behind_cut at p) last lines more left ps none f.1
passes p last lines more left (a_reset r ∷ ps) none f = absurd none
passes p last [] more left (a_line o ∷ ps) none f = absurd f
passes p last (l ∷ lines) more left (a_line o ∷ ps) none f = passes (behind_line p l o) last lines more left ps none f.1
passes p last [] more left (a_broken o ∷ ps) none f = absurd f
passes p last (l ∷ lines) more left (a_broken o ∷ ps) none f =
    let cuts = only_cuts (behind_broken p o) last (map a_text lines ++ a_stop ∷ more) left ps none f.1 refl in
    (ap (λ (os : List Outcome). drop (length os) (l ∷ lines)) (cuts_answer_none ps cuts), cuts)

-- no line raises an alarm before a calm point
pub no_limits : (p last : Point) (sent left : List Sent) (ps : List Passed) → LeadsTo p sent ps last left → last.before.alarmed ≡ false → limits_in (lines_in ps) ≡ 0
no_limits p last sent left [] f calm = refl
no_limits p last sent left (a_cut k at ∷ ps) f calm = no_limits (behind_cut at p) last sent left ps f.1 calm
no_limits p last sent left (a_reset r ∷ ps) f calm = no_limits (behind_the_reset r p) last (behind_reset sent) left ps f.1 calm
no_limits p last [] left (a_line o ∷ ps) f calm = absurd f
no_limits p last (a_stop ∷ sent) left (a_line o ∷ ps) f calm = absurd f
no_limits p last (a_text line ∷ sent) left (a_line o ∷ ps) f calm =
    let one = sum_by-cons (λ (x : Outcome). cond (is_limit x.answer) 1 0) o (lines_in ps) in
    let here = ap (λ (t : Bool). cond {A = ℕ} t 1 0) (calm_before (behind_line p line o) last sent left ps f.1 calm) in
    let more = no_limits (behind_line p line o) last sent left ps f.1 calm in
    omega (arith, one, here, more)
no_limits p last [] left (a_broken o ∷ ps) f calm = absurd f
no_limits p last (a_stop ∷ sent) left (a_broken o ∷ ps) f calm = absurd f
no_limits p last (a_text line ∷ sent) left (a_broken o ∷ ps) f calm = no_limits (behind_broken p o) last sent left ps f.1 calm

-- ---- of a board

module _ (made : ℕ) (first : Opening) (e : Closed) (is : IsEpoch first e.journal) (may : MayReset first e.journal) (known : known_of e.journal ≤ made) (more : List Sent) where
  abbrev lines : List (List ℕ)
  lines = whole_lines (bytes_with e.journal e.work)

  abbrev left : List Sent
  left = texts_in (bytes_behind e.journal ++ taken_in (port_log e.work)) ++ a_stop ∷ more

  leads : LeadsTo (point_of first) (map a_text lines ++ a_stop ∷ more) (passed_at_reset made first e.journal) (point_at_reset made first e.journal) left
  leads =
      subst (λ (ss : List Sent). LeadsTo (point_of first) ss (passed_at_reset made first e.journal) (point_at_reset made first e.journal) left)
      (sym (ap (λ (ss : List Sent). ss ++ a_stop ∷ more) (texts_behind first e.journal (taken_in (port_log e.work)) is.conducted)
      ∙ append_assoc (map a_text (lines_of e.journal)) (texts_in (bytes_behind e.journal ++ taken_in (port_log e.work))) (a_stop ∷ more)))
      (comes_there made first e.journal left is may known).leads

  pub answered_there : answers_in (answered_of e.journal) ≡ length (lines_in (passed_at_reset made first e.journal))
  answered_there =
      let told = ap answers_in (told_at_end made first e.journal is may) in
      let same = answers_without (answered_of e.journal) in
      let both = answers_on first.tells (told_in (passed_at_reset made first e.journal)) in
      let greets = greets_unanswered first.tells (opened first e.journal is.conducted).greets in
      let each = (course_answers (point_of first) (point_at_reset made first e.journal) _ left (passed_at_reset made first e.journal) leads).0 in
      let none = no_limits (point_of first) (point_at_reset made first e.journal) _ left (passed_at_reset made first e.journal) leads (comes_there made first e.journal left is may known).found.free in
      omega (arith, told, same, both, greets, each, none)

  pub drops_one : (room : ℕ) (base : ℕ) (course : List Passed) → length (ended (dropped_by e)) ≤ room → DropsAreFew room 0 more course
      → DropsAreFew room 0 (map a_text lines ++ a_stop ∷ more) (passed_at_reset made first e.journal ++ a_reset (reset_of base first e.journal e.work) ∷ course)
  drops_one room base course few rest =
      course_drops room lines (dropped_by e) (passed_at_reset made first e.journal) (reset_of base first e.journal e.work) more course
      (subst (λ (n : ℕ). PassesLines lines (passed_at_reset made first e.journal) (drop n lines)) (sym answered_there)
      (passes (point_of first) (point_at_reset made first e.journal) lines more left (passed_at_reset made first e.journal) (none_passed (is_unanswered e.journal) made first e.journal) leads))
      few rest

pub drops_closed : (blocks : ℕ) (state : State) (es : NewestFirst Closed) (room : ℕ) (sent : List Sent) (course : List Passed) → AreClosed blocks state es → AllByRecursion (λ ls. length (ended ls) ≤ room) (map dropped_by es) → DropsAreFew room 0 sent course
    → DropsAreFew room 0 (closed_texts es ++ sent) (closed_course blocks state es ++ course)
drops_closed blocks state [] room sent course c few rest = rest
drops_closed blocks state (e ∷ es) room sent course c few rest =
    let first = opening_behind blocks state es in
    let made = made_at_halt (ticks_made es) e.work in
    let r = reset_of (ticks_made es) first e.journal e.work in
    let lines = texts_in (bytes_with e.journal e.work) in
    let here = drops_one made first e c.0.resetting.epoch c.0.resetting.may (known_made blocks state e es c) sent room (ticks_made es) course few.0 rest in
    let more = drops_closed blocks state es room (lines ++ a_stop ∷ sent) (passed_at_reset made first e.journal ++ a_reset r ∷ course) c.1 few.1 here in
    subst (λ (ss : List Sent). DropsAreFew room 0 ss (closed_course blocks state (e ∷ es) ++ course))
    (sym (append_assoc (closed_texts es) (lines ++ a_stop ∷ []) sent ∙ ap (λ (ss : List Sent). closed_texts es ++ ss) (append_assoc lines (a_stop ∷ []) sent)))
    (subst (λ (ps : List Passed). DropsAreFew room 0 (closed_texts es ++ (lines ++ a_stop ∷ sent)) ps)
    (sym (append_assoc (closed_course blocks state es) (passed_at_reset made first e.journal ++ a_reset r ∷ []) course ∙ ap (λ (ps : List Passed). closed_course blocks state es ++ ps) (append_assoc (passed_at_reset made first e.journal) (a_reset r ∷ []) course))) more)
