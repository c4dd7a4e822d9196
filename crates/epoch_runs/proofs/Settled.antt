-- The ticks of the lines of a part up to the last answered one that settles are made.
use Rattle.std.proofs.Common.{◌≡◌, ℕ, ◌+◌, ◌≤◌, Bool, true, false, not, ◌&&◌, cond, List, [], ◌∷◌, ◌++◌, length, length-append, take, refl, sym, ap, ◌∙◌, append_assoc, append-nil, arith}
use Rattle.std.proofs.lemmas.List.{take_all, take-append-le}
use Rattle.std.specs.List.{sum}
use Rattle.run_rules.specs.Cuts.{counts_asked}
use Rattle.run_rules.specs.Finding.{Fate}
use Rattle.run_rules.specs.Finding.{Fate as fates}
use Rattle.run_rules.specs.Outcomes.{jogged_behind}
use Rattle.run_rules.specs.Reports.{settled_to, fewest}
use Rattle.run_rules.specs.Work.{Outcome, Kind}
use Rattle.run_rules.specs.declared.machine.Machine.{Machine}
use Rattle.run_texts.specs.Recorded.{settled_ticks}
use Rattle.status_report.specs.Answering.{is_answer}
use Rattle.step_line.specs.Finishing.{ticks_together}
use Rattle.board_rules.specs.Conduct.{Conducted}
use Rattle.board_rules.specs.Cuts.{part_outcomes, counts_of}
use Rattle.board_rules.specs.Cuts.{parts_of as board_parts}
use Rattle.board_journal.specs.Openings.{Opening}
use Rattle.board_rules.specs.Parts.{pieces_in, lines_in, counts_in}
use Rattle.board_journal.specs.Ports.PortStep.{answered}
use Rattle.board_journal.specs.Steps.{Journal, has_limited, known_of, outcomes_of, motion_of, open_of}
use Rattle.board_journal.specs.Steps.Step.{at_port, began}
use Rattle.board_rules.specs.Turns.{has_jogged, machine_in}
use Rattle.board_rules.proofs.Alarms.{opposite, unhalted}
use Rattle.board_rules.proofs.Beginning.{fate_now}
use Rattle.board_rules.proofs.Calming.{settled_is_known}
use Rattle.board_rules.proofs.Counting.{plain_counts, length_in, closed_sum}
use Rattle.board_rules.proofs.Growing.{settled_other}
use Rattle.board_rules.proofs.Numbers.{lines_are}
use Rattle.board_rules.proofs.Phases.{Phase, done_of, phase_is, free_between}
use Rattle.board_rules.proofs.Phases.Phase.{in_line, between, unanswered}
use Rattle.epoch_courses.specs.Course.{is_unanswered}
use Rattle.epoch_courses.proofs.Answered.{counted}
use Rattle.epoch_courses.proofs.Broken.{was_unanswered}
use Rattle.epoch_records.proofs.Settling.{answered_done}

-- ---- which lines are answered

pub all_done : (first : Opening) (h : Journal) → Conducted first h → has_limited h ≡ false → is_unanswered h ≡ false → outcomes_of h ≡ done_of h
all_done first h c calm all = by_phase (phase_is first h c)
  where
    by_phase : Phase first h → outcomes_of h ≡ done_of h
    by_phase (in_line x) =
        absurd (let n = counted first h c in let t = ap (λ (b : Bool). cond {A = ℕ} b 1 0) all in let e = ap (λ (os : List Outcome). length os) x.begun in let m = length-append (done_of h) (x.o ∷ []) in omega (arith, n, t, e, m))
    by_phase (between y) = y.all
    by_phase (unanswered z) = opposite (has_limited h) z.alarmed calm

-- all but one, which does not settle if it is a jog
pub record OneLeft (h : Journal) : Type 0 where
  pub o : Outcome
  pub begun : outcomes_of h ≡ done_of h ++ o ∷ []
  pub unsettled : has_jogged h ≡ true → o.settles ≡ false

no_jog : (m : Machine) (kept : List ℕ) (o : Outcome) (was : Bool) → Fate m kept o → jogged_behind o.kind was ≡ true → o.settles ≡ false
no_jog m kept o was (fates.coded kind other) is = absurd (let e = sym (ap (λ (k : Kind). jogged_behind k was) kind) ∙ is in cc)
no_jog m kept o was (fates.a_jog kind other dollar still work) is = still
no_jog m kept o was (fates.halted kind other still work) is = still
no_jog m kept o was (fates.neither kind still none) is = still

pub one_left : (first : Opening) (h : Journal) → Conducted first h → is_unanswered h ≡ true → OneLeft h
one_left first [] c one = absurd cc
one_left first (at_port (answered r) ∷ h) c one = by_answer (is_answer r) refl (λ (e : is_unanswered h ≡ true). one_left first h c.1 e)
  where
    by_answer : (t : Bool) → is_answer r ≡ t → (is_unanswered h ≡ true → OneLeft h) → OneLeft (at_port (answered r) ∷ h)
    by_answer true is before = absurd (let e : (not true && is_unanswered h) ≡ true = ap (λ (t : Bool). not t && is_unanswered h) (sym is) ∙ one in cc)
    by_answer false is before =
        let x = before (let e : (not false && is_unanswered h) ≡ true = ap (λ (t : Bool). not t && is_unanswered h) (sym is) ∙ one in e) in
        record { o = x.o; begun = x.begun ∙ ap (λ (t : Bool). cond t (outcomes_of h) (done_of h) ++ x.o ∷ []) (sym is); unsettled = x.unsettled }
one_left first (began o ∷ h) c one = record {
  o = o;
  begun = ap (λ (os : List Outcome). os ++ o ∷ []) (free_between first h c.0.free c.0.calm (phase_is first h c.1) (λ y. y.all));
  unsettled = λ jogs. no_jog (machine_in (motion_of first h)) (open_of h) o (has_jogged h) (fate_now first h o c.0) jogs;
}
one_left first (at_port e ∷ h) c one = let x = one_left first h c.1 (was_unanswered e (is_unanswered h) one) in record { o = x.o; begun = x.begun; unsettled = x.unsettled }
one_left first (_ ∷ h) c one = let x = one_left first h c.1 one in record { o = x.o; begun = x.begun; unsettled = x.unsettled }

-- ---- what is made of them

-- Of these lines of the last part, the first are answered.
pub settled_there : (made n : ℕ) (first : Opening) (h : Journal) (lines begun : List Outcome) → Conducted first h → has_limited h ≡ false → known_of h ≤ made
    → made ≡ ticks_together (pieces_in (board_parts first h)) + n → lines ++ begun ≡ part_outcomes h → settled_to (lines_in (board_parts first h) ++ lines) ≡ settled_to (done_of h) → settled_ticks lines ≤ n
settled_there made n first h lines begun c calm known count same to =
    let qs = board_parts first h in
    let early = lines_in qs in
    let counts = counts_in qs in
    let k : ℕ = length early + length lines in
    let low = settled_is_known first h c in
    let all : counts_of first h ≡ counts ++ counts_asked (lines ++ begun) = plain_counts first h (unhalted first h c calm) ∙ ap (λ (os : List Outcome). counts ++ counts_asked os) (sym same) in
    let front : take k (early ++ (lines ++ begun)) ≡ early ++ lines =
    ap (take k) (sym (append_assoc early lines begun)) ∙ take-append-le k (early ++ lines) begun (let e = length-append early lines in omega (arith, e)) ∙ take_all k (early ++ lines) (let e = length-append early lines in omega (arith, e)) in
    let fewest_is : fewest k (early ++ (lines ++ begun)) (counts ++ counts_asked (lines ++ begun)) ≡ sum (take (settled_to (done_of h)) (counts_of first h)) =
    ap (λ (os : List Outcome). sum (take (settled_to os) (counts ++ counts_asked (lines ++ begun)))) front ∙ ap (λ (m : ℕ). sum (take m (counts ++ counts_asked (lines ++ begun)))) to
    ∙ ap (λ (ns : List ℕ). sum (take (settled_to (done_of h)) ns)) (sym all) in
    let total = closed_sum first h c in
    answered_done early lines begun counts n (length_in qs) (omega (arith, low, fewest_is, total, known, count))

-- all of them are
pub all_settled : (made n : ℕ) (first : Opening) (h : Journal) (lines : List Outcome) → Conducted first h → has_limited h ≡ false → known_of h ≤ made → made ≡ ticks_together (pieces_in (board_parts first h)) + n
    → is_unanswered h ≡ false → lines ≡ part_outcomes h → settled_ticks lines ≤ n
all_settled made n first h lines c calm known count all same =
    settled_there made n first h lines [] c calm known count (append-nil lines ∙ same)
    (ap (λ (os : List Outcome). settled_to (lines_in (board_parts first h) ++ os)) same ∙ ap settled_to (sym (lines_are first h c) ∙ all_done first h c calm all))

-- all but the last, which a reset keeps from its answer
same_last : (xs ys : List Outcome) (o p : Outcome) → xs ++ o ∷ [] ≡ ys ++ p ∷ [] → xs ≡ ys
same_last [] [] o p e = refl
same_last [] (y ∷ ys) o p e = no_more ys p (let f : [] ≡ ys ++ p ∷ [] = cc in f)
  where
    no_more : {A : Type 0} (zs : List Outcome) (q : Outcome) → ◌≡◌ {A = List Outcome} [] (zs ++ q ∷ []) → A
    no_more [] q f = absurd cc
    no_more (z ∷ zs) q f = absurd cc
same_last (x ∷ xs) [] o p e = no_more xs o (let f : [] ≡ xs ++ o ∷ [] = cc in f)
  where
    no_more : {A : Type 0} (zs : List Outcome) (q : Outcome) → ◌≡◌ {A = List Outcome} [] (zs ++ q ∷ []) → A
    no_more [] q f = absurd cc
    no_more (z ∷ zs) q f = absurd cc
same_last (x ∷ xs) (y ∷ ys) o p e =
    let first : x ≡ y = cc in
    let rest : xs ++ o ∷ [] ≡ ys ++ p ∷ [] = cc in
    ap (λ (z : Outcome). z ∷ xs) first ∙ ap (λ (zs : List Outcome). y ∷ zs) (same_last xs ys o p rest)

pub broken_settled : (made n : ℕ) (first : Opening) (h : Journal) (lines : List Outcome) (o : Outcome) → Conducted first h → has_limited h ≡ false → known_of h ≤ made → made ≡ ticks_together (pieces_in (board_parts first h)) + n
    → is_unanswered h ≡ true → lines ++ o ∷ [] ≡ part_outcomes h → settled_ticks lines ≤ n
broken_settled made n first h lines o c calm known count one same =
    let x = one_left first h c one in
    let early = lines_in (board_parts first h) in
    let both : (early ++ lines) ++ o ∷ [] ≡ done_of h ++ x.o ∷ [] = append_assoc early lines (o ∷ []) ∙ ap (λ (os : List Outcome). early ++ os) same ∙ sym (lines_are first h c) ∙ x.begun in
    settled_there made n first h lines (o ∷ []) c calm known count same (ap settled_to (same_last (early ++ lines) (done_of h) o x.o both))

-- or the last is a jog, which does not settle
pub jog_settled : (made n : ℕ) (first : Opening) (h : Journal) (lines : List Outcome) → Conducted first h → has_limited h ≡ false → known_of h ≤ made → made ≡ ticks_together (pieces_in (board_parts first h)) + n
    → has_jogged h ≡ true → lines ≡ part_outcomes h → settled_ticks lines ≤ n
jog_settled made n first h lines c calm known count jogs same = by_one (is_unanswered h) refl
  where
    by_one : (t : Bool) → is_unanswered h ≡ t → settled_ticks lines ≤ n
    by_one false all = all_settled made n first h lines c calm known count all same
    by_one true one =
        let x = one_left first h c one in
        settled_there made n first h lines [] c calm known count (append-nil lines ∙ same)
        (ap (λ (os : List Outcome). settled_to (lines_in (board_parts first h) ++ os)) same ∙ ap settled_to (sym (lines_are first h c) ∙ x.begun) ∙ settled_other (done_of h) x.o (x.unsettled jogs))
