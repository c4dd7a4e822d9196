-- Over all epochs what is answered, reports left out, is what the course tells.
use Rattle.std.proofs.Common.{◌≡◌, ℕ, Bool, true, false, not, cond, List, [], ◌∷◌, ◌++◌, refl, sym, ap, ◌∙◌, subst, append_assoc, append-nil}
use Rattle.std.proofs.lemmas.Grind.{flat_map-append}
use Rattle.std.proofs.lemmas.List.Elements.{filter-append}
use Rattle.flight.specs.Places.{end_from}
use Rattle.run_rules.specs.declared.State.{State}
use Rattle.run_rules.specs.Work.{Outcome, tells}
use Rattle.run_rules.proofs.Answering.{NoByes, no_byes_on, begun_no_bye, answers_or_halts}
use Rattle.run_texts.specs.Courses.{Passed, Reset}
use Rattle.run_texts.specs.Courses.Passed.{a_line, a_broken, a_cut, a_reset}
use Rattle.run_texts.specs.Fronts.{BeginsWith}
use Rattle.run_texts.specs.Told.{IsTold, told_of, told_in, told_at_reset}
use Rattle.status_report.specs.Answering.{is_bye, is_plain, without_reports}
use Rattle.status_report.specs.declared.Reply.{Reply}
use Rattle.status_report.specs.declared.Reply.TheVariants as replies
use Rattle.step_line.specs.Logs.{NewestFirst}
use Rattle.board_rules.specs.Conduct.{Conducted, MayBegin, IsFinished}
use Rattle.board_journal.specs.Openings.{Opening}
use Rattle.board_journal.specs.Ports.{BoardLog, answered_in}
use Rattle.board_journal.specs.Ports.PortStep.{answered, reported}
use Rattle.board_journal.specs.Steps.{Journal, port_log, answered_of, open_of, left_of, closed_tells, given_of}
use Rattle.board_journal.specs.Steps.Step.{at_port, began, cut, closing, turned}
use Rattle.board_rules.proofs.Beginning.{caused, of_begun}
use Rattle.board_rules.proofs.Keeping.{told_is}
use Rattle.board_epochs.specs.Epochs.{Closed, Epochs, AreClosed, AreEpochs, closed_log, log_behind, opening_behind, reset_of, ticks_made, last_line}
use Rattle.board_epochs.specs.Epochs.Epochs.{goes, resets}
use Rattle.board_epochs.specs.Work.{Work, Works, stage_of}
use Rattle.board_epochs.proofs.Onto.{answered_on}
use Rattle.board_epochs.proofs.Working.{all_of, never}
use Rattle.epoch_courses.specs.Course.{is_made, with_reset, made_at_halt, passed_by, passed_so_far, passed_at_reset, closed_course, course_of}
use Rattle.epoch_courses.specs.Told.{answered_by, without_byes, untold_by, closing_by}
use Rattle.epoch_courses.proofs.Telling.{cut_tells, told_lines, told_at_end}

-- the work of a reset answers nothing
pub none_answered : (number : ℕ) (before : BoardLog) (w : Work) → Works number before w → answered_in (port_log w ++ before) ≡ answered_in before
none_answered number before [] c = refl
none_answered number before (at_port (answered r) ∷ w) c = absurd (never number (all_of before w) (stage_of before w) (answered r) tt c.0)
none_answered number before (at_port (reported r) ∷ w) c = absurd (never number (all_of before w) (stage_of before w) (reported r) tt c.0)
none_answered number before (at_port e ∷ w) c = none_answered number before w c.2
none_answered number before (turned t ∷ w) c = none_answered number before w c.2
none_answered number before (_ ∷ w) c = absurd c.0

-- what was answered up to the end of an epoch, reports left out
plain_behind : (before : BoardLog) (h : Journal) → without_reports (answered_in (log_behind before h)) ≡ without_reports (answered_in before) ++ without_reports (answered_of h)
plain_behind before h = ap without_reports (answered_on _ (port_log h) before) ∙ filter-append is_plain (answered_in before) (answered_of h)

plain_closed : (blocks : ℕ) (state : State) (e : Closed) (es : NewestFirst Closed) → AreClosed blocks state (e ∷ es)
    → without_reports (answered_in (closed_log (e ∷ es))) ≡ without_reports (answered_in (closed_log es)) ++ without_reports (answered_of e.journal)
plain_closed blocks state e es c =
    ap without_reports (none_answered (last_line (opening_behind blocks state es) e.journal) (log_behind (closed_log es) e.journal) e.work c.0.resetting.works) ∙ plain_behind (closed_log es) e.journal

-- ---- closed epochs

told_on : (ps qs : List Passed) → told_in (ps ++ qs) ≡ told_in ps ++ told_in qs
told_on ps qs = flat_map-append told_of ps qs

-- what was answered, and what an epoch tells, and more
joined : (was greets told more course : List Reply) → was ++ greets ≡ replies.Banner ∷ course → (was ++ (greets ++ told)) ++ more ≡ replies.Banner ∷ (course ++ (told ++ more))
joined was greets told more course before =
    append_assoc was (greets ++ told) more ∙ ap (λ (rs : List Reply). was ++ rs) (append_assoc greets told more) ∙ sym (append_assoc was greets (told ++ more)) ∙ ap (λ (rs : List Reply). rs ++ (told ++ more)) before

told_by_reset : (ps : List Passed) (r : Reset) → told_in (ps ++ a_reset r ∷ []) ≡ told_in ps ++ told_at_reset r
told_by_reset ps r = told_on ps (a_reset r ∷ []) ∙ ap (λ (rs : List Reply). told_in ps ++ rs) (append-nil (told_at_reset r))

-- what closed epochs have answered, and what greets the next, is what their course tells
closed_told : (blocks : ℕ) (state : State) (es : NewestFirst Closed) → AreClosed blocks state es → without_reports (answered_in (closed_log es)) ++ (opening_behind blocks state es).tells ≡ replies.Banner ∷ told_in (closed_course blocks state es)
closed_told blocks state [] c = refl
closed_told blocks state (e ∷ es) c =
    let first = opening_behind blocks state es in
    let r = reset_of (ticks_made es) first e.journal e.work in
    let passed = passed_at_reset (made_at_halt (ticks_made es) e.work) first e.journal in
    ap (λ (rs : List Reply). rs ++ told_at_reset r) (plain_closed blocks state e es c
    ∙ ap (λ (rs : List Reply). without_reports (answered_in (closed_log es)) ++ rs) (told_at_end (made_at_halt (ticks_made es) e.work) first e.journal c.0.resetting.epoch c.0.resetting.may))
    ∙ joined (without_reports (answered_in (closed_log es))) first.tells (told_in passed) (told_at_reset r) (told_in (closed_course blocks state es)) (closed_told blocks state es c.1)
    ∙ ap (λ (rs : List Reply). replies.Banner ∷ (told_in (closed_course blocks state es) ++ rs)) (sym (told_by_reset passed r))
    ∙ ap (λ (rs : List Reply). replies.Banner ∷ rs) (sym (told_on (closed_course blocks state es) (passed ++ a_reset r ∷ [])))

-- ---- all epochs

open_told : (blocks : ℕ) (state : State) (made : ℕ) (es : NewestFirst Closed) (h : Journal) → AreClosed blocks state es → Conducted (opening_behind blocks state es) h
    → replies.Banner ∷ (told_in (course_of blocks state made (goes es h)) ++ closed_tells h) ≡ without_reports (answered_by (goes es h)) ++ tells (left_of (opening_behind blocks state es) h)
open_told blocks state made es h c is =
    let first = opening_behind blocks state es in
    let was = without_reports (answered_in (closed_log es)) in
    let told = told_in (passed_so_far made first h) in
    let closed = told_in (closed_course blocks state es) in
    ap (λ (rs : List Reply). replies.Banner ∷ (rs ++ closed_tells h)) (told_on (closed_course blocks state es) (passed_so_far made first h))
    ∙ ap (λ (rs : List Reply). replies.Banner ∷ rs) (append_assoc closed told (closed_tells h))
    ∙ sym (joined was first.tells told (closed_tells h) closed (closed_told blocks state es c))
    ∙ append_assoc was (first.tells ++ told) (closed_tells h)
    ∙ ap (λ (rs : List Reply). was ++ ((first.tells ++ rs) ++ closed_tells h)) (told_lines made first h)
    ∙ ap (λ (rs : List Reply). was ++ rs) (told_is first h is)
    ∙ sym (append_assoc was (without_reports (answered_of h)) (tells (left_of first h)))
    ∙ ap (λ (rs : List Reply). rs ++ tells (left_of first h)) (sym (plain_behind (closed_log es) h))

reset_told : (blocks : ℕ) (state : State) (made : ℕ) (es : NewestFirst Closed) (h : Journal) (w : Work) → AreEpochs blocks state (resets es h w)
    → replies.Banner ∷ (told_in (course_of blocks state made (resets es h w)) ++ []) ≡ without_reports (answered_by (resets es h w)) ++ []
reset_told blocks state made es h w c =
    let first = opening_behind blocks state es in
    let was = without_reports (answered_in (closed_log es)) in
    let told = told_in (passed_at_reset made first h) in
    let closed = told_in (closed_course blocks state es) in
    ap (λ (rs : List Reply). replies.Banner ∷ (rs ++ [])) (told_on (closed_course blocks state es) (passed_at_reset made first h))
    ∙ ap (λ (rs : List Reply). replies.Banner ∷ rs) (append_assoc closed told [])
    ∙ sym (joined was first.tells told [] closed (closed_told blocks state es c.0))
    ∙ ap (λ (rs : List Reply). (was ++ rs) ++ []) (sym (told_at_end made first h c.1.epoch c.1.may))
    ∙ ap (λ (rs : List Reply). rs ++ []) (sym (ap without_reports (none_answered (last_line first h) (log_behind (closed_log es) h) w c.1.works) ∙ plain_behind (closed_log es) h))

pub epochs_tell : (blocks : ℕ) (state : State) (made : ℕ) (es : Epochs) → AreEpochs blocks state es → replies.Banner ∷ (told_in (course_of blocks state made es) ++ closing_by es) ≡ without_reports (answered_by es) ++ untold_by blocks state es
epochs_tell blocks state made (goes es h) c = open_told blocks state made es h c.0 c.1.conducted
epochs_tell blocks state made (resets es h w) c = reset_told blocks state made es h w c

pub finished_tell : (blocks : ℕ) (state : State) (made : ℕ) (es : NewestFirst Closed) (h : Journal) → AreEpochs blocks state (goes es h) → IsFinished (opening_behind blocks state es) h
    → without_reports (answered_by (goes es h)) ≡ replies.Banner ∷ (told_in (course_of blocks state made (goes es h)) ++ replies.Bye ∷ [])
finished_tell blocks state made es h c over =
    sym (append-nil (without_reports (answered_by (goes es h)))) ∙ ap (λ ts. without_reports (answered_by (goes es h)) ++ tells ts) (sym over.left) ∙ sym (epochs_tell blocks state made (goes es h) c)
    ∙ ap (λ (rs : List Reply). replies.Banner ∷ (told_in (course_of blocks state made (goes es h)) ++ rs)) over.closed

-- ---- without Bye

is_no_bye : (r : Reply) → (r ≡ replies.Bye → ⊥) → is_bye r ≡ false
is_no_bye replies.Bye other = absurd (other refl)
is_no_bye _ other = refl

none_dropped : (rs : List Reply) → NoByes rs → without_byes rs ≡ rs
none_dropped [] none = refl
none_dropped (r ∷ rs) none = rw (is_no_bye r none.0) (ap (λ (ss : List Reply). r ∷ ss) (none_dropped rs none.1))

byes_on : (rs ss : List Reply) → without_byes (rs ++ ss) ≡ without_byes rs ++ without_byes ss
byes_on rs ss = filter-append (λ r. not (is_bye r)) rs ss

line_no_byes : (first : Opening) (h : Journal) (o : Outcome) → MayBegin first o h → NoByes (tells o.work)
line_no_byes first h o may = of_begun first h o (λ (x : Outcome). NoByes (tells x.work)) may ((λ e. absurd cc), ((λ e. absurd cc), tt))
    (λ x is. begun_no_bye (caused first h) x (answers_or_halts true (caused first h) (open_of h) x is))

item_no_byes : (broken : Bool) (o : Outcome) → NoByes (tells o.work) → NoByes (told_in (cond broken (a_broken o) (a_line o) ∷ []))
item_no_byes true o none = tt
item_no_byes false o none = subst NoByes (sym (append-nil (tells o.work))) none

passed_no_byes : (broken : Bool) (made : ℕ) (first : Opening) (h : Journal) → Conducted first h → NoByes (told_in (passed_by broken made first h))
passed_no_byes broken made first [] c = tt
passed_no_byes broken made first (began o ∷ h) c =
    subst NoByes (sym (told_on (passed_by false made first h) (cond broken (a_broken o) (a_line o) ∷ [])))
    (no_byes_on (told_in (passed_by false made first h)) (told_in (cond broken (a_broken o) (a_line o) ∷ [])) (passed_no_byes false made first h c.1) (item_no_byes broken o (line_no_byes first h o c.0)))
passed_no_byes broken made first (cut k ∷ h) c =
    subst NoByes (sym (told_on (passed_by broken made first h) (cond (is_made made h) (a_cut k (end_from first.place (given_of h)) ∷ []) [])
    ∙ ap (λ (rs : List Reply). told_in (passed_by broken made first h) ++ rs) (cut_tells (is_made made h) k (end_from first.place (given_of h))) ∙ append-nil (told_in (passed_by broken made first h)))) (passed_no_byes broken made first h c.1)
passed_no_byes broken made first (_ ∷ h) c = passed_no_byes broken made first h c.1

greeting_no_byes : (alarm locked : Bool) (r : Reset) → r.alarm ≡ alarm → r.locked ≡ locked → NoByes (told_at_reset r)
greeting_no_byes true true r a l = rw (a, l) ((λ e. absurd cc), ((λ e. absurd cc), ((λ e. absurd cc), tt)))
greeting_no_byes true false r a l = rw (a, l) ((λ e. absurd cc), ((λ e. absurd cc), tt))
greeting_no_byes false true r a l = rw (a, l) ((λ e. absurd cc), ((λ e. absurd cc), tt))
greeting_no_byes false false r a l = rw (a, l) ((λ e. absurd cc), tt)

closed_no_byes : (blocks : ℕ) (state : State) (es : NewestFirst Closed) → AreClosed blocks state es → NoByes (told_in (closed_course blocks state es))
closed_no_byes blocks state [] c = tt
closed_no_byes blocks state (e ∷ es) c =
    let first = opening_behind blocks state es in
    let r = reset_of (ticks_made es) first e.journal e.work in
    let passed = passed_at_reset (made_at_halt (ticks_made es) e.work) first e.journal in
    subst NoByes (sym (told_on (closed_course blocks state es) (passed ++ a_reset r ∷ []) ∙ ap (λ (rs : List Reply). told_in (closed_course blocks state es) ++ rs) (told_by_reset passed r)))
    (no_byes_on (told_in (closed_course blocks state es)) (told_in passed ++ told_at_reset r) (closed_no_byes blocks state es c.1)
    (no_byes_on (told_in passed) (told_at_reset r) (passed_no_byes _ _ first e.journal c.0.resetting.epoch.conducted) (greeting_no_byes r.alarm r.locked r refl refl)))

course_no_byes : (blocks : ℕ) (state : State) (made : ℕ) (es : Epochs) → AreEpochs blocks state es → NoByes (told_in (course_of blocks state made es))
course_no_byes blocks state made (goes es h) c =
    let first = opening_behind blocks state es in
    subst NoByes (sym (told_on (closed_course blocks state es) (passed_so_far made first h))) (no_byes_on (told_in (closed_course blocks state es)) (told_in (passed_so_far made first h)) (closed_no_byes blocks state es c.0) (passed_no_byes false made first h c.1.conducted))
course_no_byes blocks state made (resets es h w) c =
    let first = opening_behind blocks state es in
    subst NoByes (sym (told_on (closed_course blocks state es) (passed_at_reset made first h)))
    (no_byes_on (told_in (closed_course blocks state es)) (told_in (passed_at_reset made first h)) (closed_no_byes blocks state es c.0) (passed_no_byes _ _ first h c.1.epoch.conducted))

only_byes : (h : Journal) → without_byes (closed_tells h) ≡ []
only_byes [] = refl
only_byes (closing ∷ h) = byes_on (closed_tells h) (replies.Bye ∷ []) ∙ append-nil (without_byes (closed_tells h)) ∙ only_byes h
only_byes (_ ∷ h) = only_byes h

closing_byes : (es : Epochs) → without_byes (closing_by es) ≡ []
closing_byes (goes es h) = only_byes h
closing_byes (resets es h w) = refl

-- reports and Bye are left out in either order
pub both_out : (rs : List Reply) → without_reports (without_byes rs) ≡ without_byes (without_reports rs)
both_out [] = refl
both_out (replies.Bye ∷ rs) = both_out rs
both_out (replies.Report r ∷ rs) = both_out rs
both_out (r ∷ rs) = ap (λ (ss : List Reply). r ∷ ss) (both_out rs)

told_without : (blocks : ℕ) (state : State) (made : ℕ) (es : Epochs) → AreEpochs blocks state es → replies.Banner ∷ told_in (course_of blocks state made es) ≡ without_reports (without_byes (answered_by es)) ++ without_byes (untold_by blocks state es)
told_without blocks state made es c =
    let told = replies.Banner ∷ told_in (course_of blocks state made es) in
    sym (byes_on told (closing_by es) ∙ ap (λ (rs : List Reply). without_byes told ++ rs) (closing_byes es) ∙ append-nil (without_byes told)
    ∙ ap (λ (rs : List Reply). replies.Banner ∷ rs) (none_dropped (told_in (course_of blocks state made es)) (course_no_byes blocks state made es c)))
    ∙ ap without_byes (epochs_tell blocks state made es c)
    ∙ byes_on (without_reports (answered_by es)) (untold_by blocks state es)
    ∙ ap (λ (rs : List Reply). rs ++ without_byes (untold_by blocks state es)) (sym (both_out (answered_by es)))

-- what is answered is a front of what the course tells
pub told_so_far : (blocks : ℕ) (state : State) (made : ℕ) (es : Epochs) → AreEpochs blocks state es → BeginsWith (replies.Banner ∷ told_in (course_of blocks state made es)) (without_reports (without_byes (answered_by es)))
told_so_far blocks state made es c = record { rest = without_byes (untold_by blocks state es); is = told_without blocks state made es c }

-- a console that begins with the banner tells it
pub console_tells : (blocks : ℕ) (state : State) (made : ℕ) (es : NewestFirst Closed) (h : Journal) (behind : List Reply) → AreEpochs blocks state (goes es h) → IsFinished (opening_behind blocks state es) h
    → without_byes (answered_by (goes es h)) ≡ replies.Banner ∷ behind → IsTold (course_of blocks state made (goes es h)) (replies.Banner ∷ behind)
console_tells blocks state made es h behind c over is =
    let all : replies.Banner ∷ told_in (course_of blocks state made (goes es h)) ≡ replies.Banner ∷ without_reports behind =
    told_without blocks state made (goes es h) c ∙ ap (λ ts. without_reports (without_byes (answered_by (goes es h))) ++ without_byes (tells ts)) over.left ∙ append-nil (without_reports (without_byes (answered_by (goes es h)))) ∙ ap without_reports is in
    record { behind = behind; begins = refl; told = (let e : told_in (course_of blocks state made (goes es h)) ≡ without_reports behind = cc in sym e) }

-- with a reset whose mark is published, which is told later
pub marked_told : (blocks : ℕ) (state : State) (es : NewestFirst Closed) (h : Journal) (w : Work) → AreEpochs blocks state (resets es h w)
    → BeginsWith (replies.Banner ∷ told_in (closed_course blocks state (with_reset es h w))) (without_reports (without_byes (answered_by (resets es h w))))
marked_told blocks state es h w c =
    let first = opening_behind blocks state es in
    let made = made_at_halt (ticks_made es) w in
    let r = reset_of (ticks_made es) first h w in
    let before = course_of blocks state made (resets es h w) in
    let said = without_reports (without_byes (answered_by (resets es h w))) in
    let front = told_so_far blocks state made (resets es h w) c in
    record {
      rest = front.rest ++ told_at_reset r;
      is = ap (λ (ps : List Passed). replies.Banner ∷ told_in ps) (sym (append_assoc (closed_course blocks state es) (passed_at_reset made first h) (a_reset r ∷ [])))
          ∙ ap (λ (rs : List Reply). replies.Banner ∷ rs) (told_by_reset before r) ∙ ap (λ (rs : List Reply). rs ++ told_at_reset r) front.is ∙ append_assoc said front.rest (told_at_reset r);
    }
