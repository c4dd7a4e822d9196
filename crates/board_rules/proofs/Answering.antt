-- Each line has one answer, or raises an alarm, so that a line is answered only where it was taken to its LF.
use Rattle.std.proofs.Common.{◌≡◌, ℕ, ◌+◌, ◌<◌, List, [], ◌∷◌, ◌++◌, true, false, Bool, cond, length, drop, refl, ap, arith}
use Rattle.std.specs.List.{AllByRecursion, count_by, flat_map}
use Rattle.std.proofs.lemmas.List.Sums.{sum_by-append}
use Rattle.status_report.specs.declared.Reply.{Reply}
use Rattle.status_report.specs.declared.Reply.TheVariants as replies
use Rattle.status_report.specs.Answering.{lfs_in, is_answer, answers_in, without_reports}
use Rattle.status_report.proofs.Answered.{lfs_first, lfs_on, answers_first, answers_on}
use Rattle.run_rules.specs.Lines.{HasNoLf, ended}
use Rattle.run_rules.specs.Work.{Task, tells}
use Rattle.run_rules.specs.Work.Task.{tell}
use Rattle.run_rules.specs.Told.{replies_after, limits_in}
use Rattle.board_rules.proofs.Lined.{as_many, limits_are, all_answer, all_answered}
use Rattle.units.specs.Truths.{one_if}
use Rattle.run_rules.specs.Work.{Outcome}
use Rattle.board_journal.specs.Openings.{Opening}
use Rattle.board_journal.specs.Steps.{Journal, taken_of, has_limited, answered_of, whole_of, open_of, lines_of, outcomes_of, left_of, closed_tells}
use Rattle.board_journal.specs.Steps.Step.{closing}
use Rattle.board_rules.specs.Conduct.{Conducted, IsNextTask}
use Rattle.board_rules.specs.Whole.{AreLines}
use Rattle.board_rules.proofs.Opening.{greeted_answers, opened}
use Rattle.board_rules.proofs.Plain.{answers_without}
use Rattle.board_rules.proofs.Keeping.{told_is}
use Rattle.board_rules.proofs.Lines.{bytes_are}

-- closing a run tells no answer, and no Banner
pub closing_none : (p : Reply → Bool) → p replies.Bye ≡ false → (h : Journal) → count_by p (closed_tells h) ≡ 0
closing_none p other [] = refl
closing_none p other (closing ∷ h) =
    let a = sum_by-append (λ r. cond (p r) 1 0) (closed_tells h) (replies.Bye ∷ []) in
    let b = ap (λ (t : Bool). cond {A = ℕ} t 1 0) other in let m = closing_none p other h in omega arith
closing_none p other (_ ∷ h) = closing_none p other h

-- as many line feeds as lines
no_lfs : (xs : List ℕ) → HasNoLf xs → lfs_in xs ≡ 0
no_lfs [] h = refl
no_lfs (x ∷ xs) h =
    let a = lfs_first x xs in let t = ap (λ (b : Bool). cond {A = ℕ} b 1 0) h.0 in let m = no_lfs xs h.1 in omega arith

lfs_ended : (lines : List (List ℕ)) → AllByRecursion HasNoLf lines → lfs_in (ended lines) ≡ length lines
lfs_ended [] each = refl
lfs_ended (l ∷ ls) each =
    let a = lfs_on (l ++ 10 ∷ []) (ended ls) in let b = lfs_on l (10 ∷ []) in
    let n = no_lfs l each.0 in let m = lfs_ended ls each.1 in omega arith

pub lfs_of_lines : (taken : List ℕ) (lines : List (List ℕ)) (raw : List ℕ) (whole : Bool) → AreLines taken lines raw whole → lfs_in taken ≡ length lines + cond whole 1 0
lfs_of_lines taken lines raw true is =
    let e = ap lfs_in is.bytes in let a = lfs_on (ended lines) (raw ++ 10 ∷ []) in let b = lfs_on raw (10 ∷ []) in
    let n = no_lfs raw is.partial in let m = lfs_ended lines is.each in omega arith
lfs_of_lines taken lines raw false is =
    let e = ap lfs_in is.bytes in let a = lfs_on (ended lines) (raw ++ []) in let b = lfs_on raw [] in
    let n = no_lfs raw is.partial in let m = lfs_ended lines is.each in omega arith

-- as many alarms as the journal tells
pub alarms_are : (first : Opening) (h : Journal) → Conducted first h → limits_in (outcomes_of h) ≡ one_if (has_limited h)
alarms_are = limits_are

-- what was answered, what is still to be answered, the line that raised an alarm, and the line that is taken and not begun, are the
-- lines taken
pub answers_are : (first : Opening) (h : Journal) → Conducted first h
    → answers_in (answered_of h) + answers_in (tells (left_of first h)) + one_if (has_limited h) + cond (whole_of h) 1 0 ≡ lfs_in (taken_of h)
answers_are first h c =
    let each = all_answered (outcomes_of h) (all_answer first h c) in
    let many = as_many h in
    let banner = answers_first replies.Banner (flat_map (λ (o : Outcome). tells o.work) (outcomes_of h)) in
    let greeted = greeted_answers first.tells (outcomes_of h) (opened first h c).greets in
    let alarms = alarms_are first h c in
    let lfs = lfs_of_lines (taken_of h) (lines_of h) (open_of h) (whole_of h) (bytes_are first h c) in
    let t = ap answers_in (told_is first h c) in
    let left = answers_on (replies_after first.tells (outcomes_of h)) (closed_tells h) in
    let right = answers_on (without_reports (answered_of h)) (tells (left_of first h)) in
    let same = answers_without (answered_of h) in
    let none = closing_none is_answer refl h in
    omega arith

-- so the answer that is next may be given
pub answer_is_due : (first : Opening) (h : Journal) (r : Reply) → Conducted first h → IsNextTask first (tell r) h → is_answer r ≡ true
    → answers_in (answered_of h) < lfs_in (taken_of h)
answer_is_due first h r c next is =
    let all = answers_are first h c in
    let e = ap (λ (ts : List Task). answers_in (tells ts)) next in
    let f = answers_first r (tells (drop 1 (left_of first h))) in
    let one = ap (λ (t : Bool). cond {A = ℕ} t 1 0) is in
    omega arith
