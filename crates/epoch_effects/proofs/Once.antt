-- Each line has one answer over all epochs, and the errors are those of the lines.
use Rattle.std.proofs.Common.{◌≡◌, ℕ, ◌+◌, ◌≤◌, Bool, true, false, cond, List, [], ◌∷◌, ◌++◌, length, refl, ap, arith}
use Rattle.std.proofs.lemmas.List.Sums.{sum_by-append, sum_by-cons}
use Rattle.std.specs.List.{AllByRecursion, count_by}
use Rattle.run_rules.specs.declared.State.{State}
use Rattle.run_rules.specs.Told.{is_error, errors_among, errors_in, limits_in}
use Rattle.run_rules.specs.Work.{Outcome, tells, is_limit}
use Rattle.run_rules.proofs.Answering.{CountsAnswers, one_counted, one_each}
use Rattle.run_texts.specs.Courses.{Passed, lines_in, behind_cut, behind_the_reset}
use Rattle.run_texts.specs.Courses.Passed.{a_line, a_broken, a_cut, a_reset}
use Rattle.run_texts.specs.Points.{Point, opening, behind_line, behind_broken}
use Rattle.run_texts.specs.Sent.{Sent, behind_reset}
use Rattle.run_texts.specs.Sent.Sent.{a_text, a_stop}
use Rattle.run_texts.specs.SoFar.{LeadsTo}
use Rattle.run_texts.specs.Told.{told_in, told_at_reset}
use Rattle.run_texts.proofs.Determined.{line_answers}
use Rattle.status_report.specs.Answering.{is_answer, answers_in, without_reports}
use Rattle.status_report.specs.declared.Message.TheVariants.{Locked}
use Rattle.status_report.specs.declared.Reply.{Reply}
use Rattle.status_report.specs.declared.Reply.TheVariants as replies
use Rattle.step_line.specs.Logs.{NewestFirst}
use Rattle.board_rules.specs.Conduct.{IsFinished}
use Rattle.board_journal.specs.Steps.{Journal, known_of, left_of, closed_tells}
use Rattle.board_journal.specs.Steps.Step.{closing}
use Rattle.board_rules.proofs.Plain.{answers_without}
use Rattle.board_epochs.specs.Epochs.{Closed, Epochs, AreEpochs, opening_behind}
use Rattle.board_epochs.specs.Epochs.Epochs.{goes, resets}
use Rattle.run_law.proofs.Reporting.{errors_without}
use Rattle.epoch_courses.specs.Course.{course_of, open_journal, stands_at}
use Rattle.epoch_courses.specs.Taken.{sent_by, left_by}
use Rattle.epoch_courses.specs.Told.{answered_by, untold_by, closing_by}
use Rattle.epoch_courses.proofs.Chain.{epochs_lead}
use Rattle.epoch_courses.proofs.Told.{epochs_tell}

-- ---- of any replies

both_counted : (p : Reply → Bool) (rs ss : List Reply) → count_by p (rs ++ ss) ≡ count_by p rs + count_by p ss
both_counted p rs ss = sum_by-append (λ r. cond (p r) 1 0) rs ss

one_none : (t : Bool) → t ≡ false → ◌≡◌ {A = ℕ} (cond t 1 0) 0
one_none true is = absurd cc
one_none false is = refl

none_counted : (p : Reply → Bool) → CountsAnswers p → (rs : List Reply) → AllByRecursion (λ r. is_answer r ≡ false) rs → count_by p rs ≡ 0
none_counted p only [] none = refl
none_counted p only (r ∷ rs) none =
    let first = sum_by-cons (λ x. cond (p x) 1 0) r rs in let rest = none_counted p only rs none.1 in let here = one_none (p r) (only r none.0) in omega (arith, first, rest, here)

reset_tells_none : (alarm locked : Bool) → AllByRecursion (λ r. is_answer r ≡ false) (cond alarm (replies.Alarm 3 ∷ []) [] ++ replies.Banner ∷ cond locked (replies.Message Locked ∷ []) [])
reset_tells_none true true = (refl, (refl, (refl, tt)))
reset_tells_none true false = (refl, (refl, tt))
reset_tells_none false true = (refl, (refl, tt))
reset_tells_none false false = (refl, tt)

closing_counted : (p : Reply → Bool) → CountsAnswers p → (h : Journal) → count_by p (closed_tells h) ≡ 0
closing_counted p only [] = refl
closing_counted p only (closing ∷ h) =
    let both = both_counted p (closed_tells h) (replies.Bye ∷ []) in let was = closing_counted p only h in let bye = none_counted p only (replies.Bye ∷ []) (refl, tt) in omega (arith, both, was, bye)
closing_counted p only (_ ∷ h) = closing_counted p only h

errors_are_answers : CountsAnswers is_error
errors_are_answers (replies.Error n) e = absurd cc
errors_are_answers _ e = refl

-- ---- of a course

lines_counted : (p : Reply → Bool) → CountsAnswers p → (q last : Point) (sent rest : List Sent) (ps : List Passed) → LeadsTo q sent ps last rest → count_by p (told_in ps) ≡ count_by (λ (o : Outcome). p o.answer) (lines_in ps)
lines_counted p only q last sent rest [] f = refl
lines_counted p only q last sent rest (a_cut k at ∷ ps) f = lines_counted p only (behind_cut at q) last sent rest ps f.1
lines_counted p only q last sent rest (a_reset r ∷ ps) f =
    let both = both_counted p (told_at_reset r) (told_in ps) in
    let none = none_counted p only (told_at_reset r) (reset_tells_none r.alarm r.locked) in
    let more = lines_counted p only (behind_the_reset r q) last (behind_reset sent) rest ps f.1 in
    omega (arith, both, none, more)
lines_counted p only q last [] rest (a_line o ∷ ps) f = absurd f
lines_counted p only q last [] rest (a_broken o ∷ ps) f = absurd f
lines_counted p only q last (a_stop ∷ sent) rest (a_line o ∷ ps) f = absurd f
lines_counted p only q last (a_stop ∷ sent) rest (a_broken o ∷ ps) f = absurd f
lines_counted p only q last (a_text line ∷ sent) rest (a_broken o ∷ ps) f = lines_counted p only (behind_broken q o) last sent rest ps f.1
lines_counted p only q last (a_text line ∷ sent) rest (a_line o ∷ ps) f =
    let both = both_counted p (tells o.work) (told_in ps) in
    let first = sum_by-cons (λ (x : Outcome). cond (p x.answer) 1 0) o (lines_in ps) in
    let here = one_counted p only q.before o (line_answers true q line o f.0.becomes) in
    let more = lines_counted p only (behind_line q line o) last sent rest ps f.1 in
    omega (arith, both, first, here, more)

each_answered : (q last : Point) (sent rest : List Sent) (ps : List Passed) → LeadsTo q sent ps last rest → count_by (λ (o : Outcome). is_answer o.answer) (lines_in ps) + limits_in (lines_in ps) ≡ length (lines_in ps)
each_answered q last sent rest [] f = refl
each_answered q last sent rest (a_cut k at ∷ ps) f = each_answered (behind_cut at q) last sent rest ps f.1
each_answered q last sent rest (a_reset r ∷ ps) f = each_answered (behind_the_reset r q) last (behind_reset sent) rest ps f.1
each_answered q last [] rest (a_line o ∷ ps) f = absurd f
each_answered q last [] rest (a_broken o ∷ ps) f = absurd f
each_answered q last (a_stop ∷ sent) rest (a_line o ∷ ps) f = absurd f
each_answered q last (a_stop ∷ sent) rest (a_broken o ∷ ps) f = absurd f
each_answered q last (a_text line ∷ sent) rest (a_broken o ∷ ps) f = each_answered (behind_broken q o) last sent rest ps f.1
each_answered q last (a_text line ∷ sent) rest (a_line o ∷ ps) f =
    let os = lines_in ps in
    let answers = sum_by-cons (λ (x : Outcome). cond (is_answer x.answer) 1 0) o os in
    let alarms = sum_by-cons (λ (x : Outcome). cond (is_limit x.answer) 1 0) o os in
    let here = one_each q.before o (line_answers true q line o f.0.becomes) in
    let more = each_answered (behind_line q line o) last sent rest ps f.1 in
    omega (arith, answers, alarms, here, more)

pub course_answers : (p last : Point) (sent rest : List Sent) (course : List Passed) → LeadsTo p sent course last rest
    → (answers_in (told_in course) + limits_in (lines_in course) ≡ length (lines_in course)) × (errors_among (told_in course) ≡ errors_in (lines_in course))
course_answers p last sent rest course f = (
  (let told = lines_counted is_answer (λ r e. e) p last sent rest course f in let each = each_answered p last sent rest course f in omega (arith, told, each)),
  lines_counted is_error errors_are_answers p last sent rest course f,
)

-- ---- of a board

closing_none : (p : Reply → Bool) → CountsAnswers p → (es : Epochs) → count_by p (closing_by es) ≡ 0
closing_none p only (goes es h) = closing_counted p only h
closing_none p only (resets es h w) = refl

-- what is told of the lines is what was answered, and what is to be told yet
all_told : (p : Reply → Bool) → CountsAnswers p → (blocks : ℕ) (state : State) (made : ℕ) (es : Epochs) → AreEpochs blocks state es
    → count_by p (told_in (course_of blocks state made es)) ≡ count_by p (without_reports (answered_by es)) + count_by p (untold_by blocks state es)
all_told p only blocks state made es c =
    let course = told_in (course_of blocks state made es) in
    let first = sum_by-cons (λ x. cond (p x) 1 0) replies.Banner (course ++ closing_by es) in
    let banner = one_none (p replies.Banner) (only replies.Banner refl) in
    let both = both_counted p course (closing_by es) in
    let none = closing_none p only es in
    let same = ap (count_by p) (epochs_tell blocks state made es c) in
    let other = both_counted p (without_reports (answered_by es)) (untold_by blocks state es) in
    omega (arith, first, banner, both, none, same, other)

pub answers_so_far : (blocks : ℕ) (state : State) (made : ℕ) (es : Epochs) → AreEpochs blocks state es → known_of (open_journal es) ≤ made
    → let lines = lines_in (course_of blocks state made es) in
    (answers_in (answered_by es) + answers_in (untold_by blocks state es) + limits_in lines ≡ length lines) × (errors_among (answered_by es) + errors_among (untold_by blocks state es) ≡ errors_in lines)
answers_so_far blocks state made es c known =
    let a = course_answers (opening state) (stands_at blocks state made es) (sent_by es) (left_by es) (course_of blocks state made es) (epochs_lead blocks state made es c known) in (
      (let here = a.0 in let told = all_told is_answer (λ r e. e) blocks state made es c in let plain = answers_without (answered_by es) in omega (arith, here, told, plain)),
      (let here = a.1 in let told = all_told is_error errors_are_answers blocks state made es c in let plain = errors_without (answered_by es) in omega (arith, here, told, plain)),
    )

pub answers_finished : (blocks : ℕ) (state : State) (made : ℕ) (es : NewestFirst Closed) (h : Journal) → AreEpochs blocks state (goes es h) → IsFinished (opening_behind blocks state es) h → known_of h ≤ made
    → let lines = lines_in (course_of blocks state made (goes es h)) in
    (answers_in (answered_by (goes es h)) + limits_in lines ≡ length lines) × (errors_among (answered_by (goes es h)) ≡ errors_in lines)
answers_finished blocks state made es h c over known =
    let a = answers_so_far blocks state made (goes es h) c known in
    let none : tells (left_of (opening_behind blocks state es) h) ≡ [] = ap tells over.left in (
      (let here = a.0 in let free = ap answers_in none in let zero : answers_in [] ≡ 0 = refl in omega (arith, here, free, zero)),
      (let here = a.1 in let free = ap errors_among none in let zero : errors_among [] ≡ 0 = refl in omega (arith, here, free, zero)),
    )
