-- A line that was begun and is not answered has its answer among what is left to do; where all are answered only replies are left.
use Rattle.std.proofs.Common.{◌≡◌, ℕ, ◌+◌, Bool, true, false, not, ◌&&◌, cond, List, [], ◌∷◌, length, length-append, refl, sym, ap, ◌∙◌, subst, arith}
use Rattle.planner_runs.specs.declared.Action.{Action}
use Rattle.planner_runs.specs.declared.Action.TheVariants.{Add, Mark, Rest}
use Rattle.run_rules.specs.Work.{Task}
use Rattle.status_report.specs.Answering.{is_answer}
use Rattle.status_report.specs.declared.Reply.{Reply}
use Rattle.board_rules.specs.Conduct.{Conducted}
use Rattle.board_journal.specs.Openings.{Opening}
use Rattle.board_journal.specs.Ports.PortStep.{answered}
use Rattle.board_journal.specs.Steps.{Step, Journal, has_limited, outcomes_of, left_of, left_by, closed_tells}
use Rattle.board_journal.specs.Steps.Step.{at_port, began, did, became, cut, closing, turned}
use Rattle.board_rules.proofs.Alarms.{opposite}
use Rattle.board_rules.proofs.Phases.{Ends, Phase, done_of, phase_is, answered_in_line, answer_ends, free_between}
use Rattle.board_rules.proofs.Phases.Phase.{in_line, between, unanswered}
use Rattle.board_rules.proofs.Tasks.{none_closed}
use Rattle.epoch_courses.specs.Course.{is_unanswered}
use Rattle.epoch_courses.proofs.Tells.{tells_alone, alone_told, alone_tail, alone_kept}

-- ---- one step more

alone_did : (a : Action) (ts : List Task) → tells_alone ts ≡ true → tells_alone (left_by a ts) ≡ true
alone_did (Add m) ts is = alone_tail ts is
alone_did (Mark m) ts is = alone_tail ts is
alone_did Rest ts is = alone_tail ts is
alone_did _ ts is = is

-- no line is begun
abbrev pub BeginsNone : Step → Type 0
BeginsNone (began o) = ⊥
BeginsNone s = Unit {0}

pub alone_on : (first : Opening) (s : Step) (h : Journal) → BeginsNone s → closed_tells (s ∷ h) ≡ [] → tells_alone (left_of first h) ≡ true → tells_alone (left_of first (s ∷ h)) ≡ true
alone_on first (at_port (answered r)) h none going is = alone_tail (left_of first h) is
alone_on first (at_port e) h none going is = is
alone_on first (began o) h none going is = absurd none
alone_on first (did a ps) h none going is = alone_did a (left_of first h) is
alone_on first (became call m) h none going is = is
alone_on first (cut k) h none going is = alone_kept (left_of first h) is
alone_on first closing h none going is = absurd (none_closed (closed_tells h) going)
alone_on first (turned t) h none going is = is
alone_on first _ h none going is = alone_tail (left_of first h) is

-- ---- lines that are answered

one_behind : (answers was : Bool) → answers ≡ false → (not answers && was) ≡ was
one_behind true was is = absurd cc
one_behind false was is = refl

-- an answer is the last that there is to do of a line
pub none_behind : (first : Opening) (h : Journal) (r : Reply) → Conducted first (at_port (answered r) ∷ h) → is_answer r ≡ true → left_of first (at_port (answered r) ∷ h) ≡ []
none_behind first h r c is = answered_in_line first h r c.0.next is (phase_is first h c.1) (λ x. answer_ends first h r c.0.next is x.left)

pub only_told : (first : Opening) (h : Journal) → Conducted first h → closed_tells h ≡ [] → is_unanswered h ≡ false → tells_alone (left_of first h) ≡ true
only_told first [] c going all = alone_told first.tells
only_told first (at_port (answered r) ∷ h) c going all = by_answer (is_answer r) refl (λ (e : is_unanswered h ≡ false). only_told first h c.1 going e)
  where
    by_answer : (t : Bool) → is_answer r ≡ t → (is_unanswered h ≡ false → tells_alone (left_of first h) ≡ true) → tells_alone (left_of first (at_port (answered r) ∷ h)) ≡ true
    by_answer true is before = ap tells_alone (none_behind first h r c is)
    by_answer false is before = alone_tail (left_of first h) (before (sym (one_behind (is_answer r) (is_unanswered h) is) ∙ all))
only_told first (began o ∷ h) c going all = absurd cc
only_told first (closing ∷ h) c going all = absurd (none_closed (closed_tells h) going)
only_told first (at_port e ∷ h) c going all = only_told first h c.1 going all
only_told first (s ∷ h) c going all = alone_on first s h tt going (only_told first h c.1 going all)

-- ---- a line that is not

-- the lines answered, and the one that is not, are those begun
pub counted : (first : Opening) (h : Journal) → Conducted first h → length (done_of h) + cond (is_unanswered h) 1 0 ≡ length (outcomes_of h)
counted first [] c = refl
counted first (at_port (answered r) ∷ h) c = by_answer (is_answer r) refl (counted first h c.1)
  where
    by_answer : (t : Bool) → is_answer r ≡ t → length (done_of h) + cond (is_unanswered h) 1 0 ≡ length (outcomes_of h) → length (cond (is_answer r) (outcomes_of h) (done_of h)) + cond (not (is_answer r) && is_unanswered h) 1 0 ≡ length (outcomes_of h)
    by_answer true is before = rw is (omega arith)
    by_answer false is before = rw is before
counted first (began o ∷ h) c =
    let all : length (outcomes_of h) ≡ length (done_of h) = free_between first h c.0.free c.0.calm (phase_is first h c.1) (λ y. ap length y.all) in
    let more = length-append (outcomes_of h) (o ∷ []) in omega (arith, all, more)
counted first (at_port e ∷ h) c = counted first h c.1
counted first (_ ∷ h) c = counted first h c.1

pub ends_there : (first : Opening) (h : Journal) → Conducted first h → has_limited h ≡ false → is_unanswered h ≡ true → Ends (left_of first h)
ends_there first h c calm one = by_phase (phase_is first h c)
  where
    by_phase : Phase first h → Ends (left_of first h)
    by_phase (in_line x) = x.left
    by_phase (between y) = absurd (let n = counted first h c in let t = ap (λ (b : Bool). cond {A = ℕ} b 1 0) one in let all = ap length y.all in omega (arith, n, t, all))
    by_phase (unanswered z) = opposite (has_limited h) z.alarmed calm

-- where nothing is left to do all are answered
pub all_answered : (first : Opening) (h : Journal) → Conducted first h → has_limited h ≡ false → left_of first h ≡ [] → is_unanswered h ≡ false
all_answered first h c calm free = by_one (is_unanswered h) refl
  where
    by_one : (t : Bool) → is_unanswered h ≡ t → is_unanswered h ≡ false
    by_one false is = is
    by_one true is = absurd (subst Ends free (ends_there first h c calm is))
