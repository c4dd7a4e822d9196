-- What holds of each line that is begun holds of all: each is answered once, or raises an alarm, and tells no Banner and no Bye.
use Rattle.std.proofs.Common.{◌≡◌, inl, ℕ, ◌+◌, List, [], ◌∷◌, ◌++◌, length, length-append, true, cond, refl, ap, arith}
use Rattle.std.specs.List.{AllByRecursion, count_by, flat_map}
use Rattle.std.proofs.lemmas.List.Sums.{sum_by-append, sum_by-cons}
use Rattle.status_report.specs.declared.Message.TheVariants.{Unlocked}
use Rattle.status_report.specs.declared.Reply.TheVariants as replies
use Rattle.status_report.specs.Answering.{is_answer, is_banner, answers_in}
use Rattle.status_report.proofs.Answered.{answers_on}
use Rattle.run_rules.specs.Locking.{unlocked}
use Rattle.run_rules.specs.Outcomes.{Before, Becomes}
use Rattle.run_rules.specs.Told.{limits_in}
use Rattle.run_rules.specs.Work.{Outcome, is_limit, tells}
use Rattle.run_rules.proofs.Answering.{AnswersOrHalts, answers_or_halts, told_once, one_counted, one_each, begun_greets_none}
use Rattle.units.specs.Truths.{one_if}
use Rattle.board_journal.specs.Openings.{Opening}
use Rattle.board_journal.specs.Steps.{Journal, has_limited, open_of, lines_of, outcomes_of, before_of}
use Rattle.board_journal.specs.Steps.Step.{began}
use Rattle.board_rules.specs.Conduct.{Conducted}
use Rattle.board_rules.proofs.Beginning.{caused, of_begun}

-- what holds of each holds with one more
pub all_push : {X : Type 0} (P : X → Type 0) (xs : List X) (x : X) → AllByRecursion P xs → P x → AllByRecursion P (xs ++ x ∷ [])
all_push P [] x h p = (p, tt)
all_push P (y ∷ ys) x h p = (h.0, all_push P ys x h.1 p)

pub all_begun : (P : Outcome → Type 0) → ((b : Before) → P (unlocked b)) → ((b : Before) (kept : List ℕ) (x : Outcome) → Becomes true b kept x → P x)
    → (first : Opening) (h : Journal) → Conducted first h → AllByRecursion P (outcomes_of h)
all_begun P unlocks becomes first [] c = tt
all_begun P unlocks becomes first (began o ∷ h) c =
    all_push P (outcomes_of h) o (all_begun P unlocks becomes first h c.1) (of_begun first h o P c.0 (unlocks (before_of first h)) (becomes (caused first h) (open_of h)))
all_begun P unlocks becomes first (_ ∷ h) c = all_begun P unlocks becomes first h c.1

-- as many as there are lines
pub as_many : (h : Journal) → length (outcomes_of h) ≡ length (lines_of h)
as_many [] = refl
as_many (began o ∷ h) =
    let a = length-append (outcomes_of h) (o ∷ []) in let b = length-append (lines_of h) (open_of h ∷ []) in let m = as_many h in omega arith
as_many (_ ∷ h) = as_many h

-- as many alarms as the journal tells
pub limits_are : (first : Opening) (h : Journal) → Conducted first h → limits_in (outcomes_of h) ≡ one_if (has_limited h)
limits_are first [] c = refl
limits_are first (began o ∷ h) c =
    let a : limits_in (outcomes_of h ++ o ∷ []) ≡ limits_in (outcomes_of h) + limits_in (o ∷ []) = sum_by-append (λ (x : Outcome). cond (is_limit x.answer) 1 0) (outcomes_of h) (o ∷ []) in
    let b : limits_in (o ∷ []) ≡ one_if (is_limit o.answer) + 0 = sum_by-cons (λ (x : Outcome). cond (is_limit x.answer) 1 0) o [] in
    let m = limits_are first h c.1 in let none = ap one_if c.0.calm in omega arith
limits_are first (_ ∷ h) c = limits_are first h c.1

-- ---- answers

abbrev pub AnswersWell : Outcome → Type 0
AnswersWell o = (b : Before) × AnswersOrHalts b o

pub all_answer : (first : Opening) (h : Journal) → Conducted first h → AllByRecursion AnswersWell (outcomes_of h)
all_answer first h c = all_begun AnswersWell
    (λ b. (b, inl (told_once b.state (replies.Message Unlocked ∷ []) (unlocked b) ((refl, refl, refl), tt) refl)))
    (λ b kept x is. (b, answers_or_halts true b kept x is)) first h c

pub all_answered : (os : List Outcome) → AllByRecursion AnswersWell os → answers_in (flat_map (λ (o : Outcome). tells o.work) os) + limits_in os ≡ length os
all_answered [] all = refl
all_answered (o ∷ os) all =
    let rest = flat_map (λ (x : Outcome). tells x.work) os in
    let a = answers_on (tells o.work) rest in
    let b : limits_in (o ∷ os) ≡ cond (is_limit o.answer) 1 0 + limits_in os = sum_by-cons (λ (x : Outcome). cond (is_limit x.answer) 1 0) o os in
    let m = all_answered os all.1 in
    let n = one_counted is_answer (λ r e. e) all.0.0 o all.0.1 in
    let r = one_each all.0.0 o all.0.1 in
    omega arith

pub all_greet_none : (os : List Outcome) → AllByRecursion AnswersWell os → count_by is_banner (flat_map (λ (o : Outcome). tells o.work) os) ≡ 0
all_greet_none [] all = refl
all_greet_none (o ∷ os) all =
    let a = sum_by-append (λ x. cond (is_banner x) 1 0) (tells o.work) (flat_map (λ (x : Outcome). tells x.work) os) in
    let one = begun_greets_none all.0.0 o all.0.1 in
    let m = all_greet_none os all.1 in omega arith
