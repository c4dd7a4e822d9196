-- How many ticks are done: at least those up to the last line that settled, at most those that the lines ask for. Where
-- no line moves behind the last that settled, the machine stands.
use Rattle.std.proofs.Common.{◌≡◌, ℕ, ◌≤◌, ◌⊎◌, inl, inr, List, [], ◌∷◌, ◌++◌, length, take, drop, true, false, Bool, cond, ◌||◌, sym, refl, ap, ◌∙◌, arith, subst, append-nil, length-append}
use Rattle.std.specs.List.{flat_map, list_any, sum}
use Rattle.std.proofs.lemmas.List.{take-append-le, take_all, drop-append-le}
use Rattle.std.proofs.lemmas.List.Folds.{list_any-append}
use Rattle.line_words.proofs.Tests.{or_false}
use Rattle.status_report.specs.Answering.{is_answer}
use Rattle.status_report.specs.declared.Reply.{Reply}
use Rattle.step_line.specs.Asking.{Asked, ticks_of_all}
use Rattle.line_geom.specs.declared.Block.{Block}
use Rattle.planner_runs.specs.Runs.{ticks_left, ticks_left_in}
use Rattle.board_journal.specs.Openings.{Opening}
use Rattle.run_rules.specs.Work.{Task, Outcome, asks, has_moves}
use Rattle.run_rules.specs.Work.Task.{tell}
use Rattle.run_rules.specs.Cuts.{ticks_asked_for}
use Rattle.run_rules.specs.Reports.{settled_to, moves, fewest}
use Rattle.board_journal.specs.Ports.PortStep.{answered, loaded, found_halt}
use Rattle.board_journal.specs.Steps.{Journal, has_limited, outcomes_of, known_of, plan_of, left_of, before_of, closed_tells}
use Rattle.board_rules.specs.Cuts.{counts_of}
use Rattle.board_journal.specs.Steps.Step.{at_port, began, did, cut, halted}
use Rattle.board_rules.specs.Conduct.{Conducted, IsNextTask, ticks_given}
use Rattle.board_rules.specs.Whole.{comes_to_rest, HasComeToRest, has_any_moved}
use Rattle.board_rules.proofs.Counting.{left_to_ask, counts_are, length_counts, counts_begun, counts_did}
use Rattle.board_rules.proofs.Given.{published_within, known_within}
use Rattle.board_rules.proofs.Quieting.{quiet}
use Rattle.board_rules.proofs.Standing.{Calm, Rested, calm_on, rested_is, opens_calm}
use Rattle.board_rules.proofs.Shrinking.{low_behind, halt_low}
use Rattle.board_rules.proofs.Growing.{settled_last, settled_other, settled_below}
use Rattle.board_rules.proofs.Phases.{done_of, Phase, in_line, between, unanswered, InLine, Between, phase_is, answer_ends, answered_in_line, free_between}

-- ---- what is given is asked for

pub given_is_asked : (first : Opening) (h : Journal) → Conducted first h → ticks_given h ≤ sum (counts_of first h)
given_is_asked first h c = let all = counts_are first h c in omega (arith, all)

pub known_is_asked : (first : Opening) (h : Journal) → Conducted first h → known_of h ≤ sum (counts_of first h)
known_is_asked first h c =
    let a = known_within first h c in let b = published_within first h c in let d = given_is_asked first h c in omega (arith, a, b, d)

-- where no block stands and nothing is left to ask, all is given
all_is_given : (first : Opening) (h : Journal) → Conducted first h → (plan_of h).blocks ≡ [] → asks (left_of first h) ≡ [] → sum (counts_of first h) ≡ ticks_given h
all_is_given first h c blocks none =
    let all = counts_are first h c in
    let plan : length (ticks_left (plan_of h)) ≡ 0 = ap (λ (bs : List Block). length (flat_map ticks_left_in bs)) blocks in
    let ask : left_to_ask first h ≡ 0 = ap (λ (a : List Asked). length (ticks_of_all a)) none in
    omega (arith, all, plan, ask)

-- ---- where a line that settles is answered, all ticks are done

only_answer : (first : Opening) (h : Journal) (r : Reply) → IsNextTask first (tell r) h → drop 1 (left_of first h) ≡ [] → left_of first h ≡ tell r ∷ []
only_answer first h r next last = next ∙ ap (λ (ts : List Task). tell r ∷ ts) last

at_answer : (first : Opening) (h : Journal) (r : Reply) → Conducted first h → left_of first h ≡ tell r ∷ [] → closed_tells h ≡ [] → has_any_moved (before_of first h) ≡ false → HasComeToRest first h
at_answer first h r c left going still = by_rest (quiet first h c going still)
  where
    by_rest : (comes_to_rest (left_of first h) ≡ true) ⊎ HasComeToRest first h → HasComeToRest first h
    by_rest (inl will) = absurd (let e = sym (ap comes_to_rest left) ∙ will in cc)
    by_rest (inr q) = q

-- so many ticks count up to and with the last line that settles of these
abbrev low_at : List Outcome → List ℕ → ℕ
low_at os counts = sum (take (settled_to os) counts)

-- and of those that were answered
abbrev pub settled_ticks : Opening → Journal → ℕ
settled_ticks first h = low_at (done_of h) (counts_of first h)

settling_line : (first : Opening) (h : Journal) (r : Reply) → Conducted first h → IsNextTask first (tell r) h → is_answer r ≡ true → (x : InLine first h) → (b : Bool) → x.o.settles ≡ b
    → settled_ticks first h ≤ known_of h → low_at (outcomes_of h) (counts_of first h) ≤ known_of h
settling_line first h r c next is x true settles low =
    let left = only_answer first h r next (answer_ends first h r next is x.left) in
    let q = at_answer first h r c left x.going (x.moved settles) in
    let all : sum (counts_of first h) ≡ ticks_given h = all_is_given first h c q.drained.plan.blocks (ap asks left) in
    let n : settled_to (outcomes_of h) ≡ length (outcomes_of h) =
    ap settled_to x.begun ∙ settled_last (done_of h) x.o settles ∙ ap (λ (os : List Outcome). length os) (sym x.begun) in
    let long = length_counts first h c in
    let e : low_at (outcomes_of h) (counts_of first h) ≡ sum (counts_of first h) = ap sum (take_all (settled_to (outcomes_of h)) (counts_of first h) (omega (arith, n, long))) in
    let d = q.drained.done in
    omega (arith, all, e, d)
settling_line first h r c next is x false unsettled low =
    let e : low_at (outcomes_of h) (counts_of first h) ≡ settled_ticks first h =
    ap (λ (n : ℕ). sum (take n (counts_of first h))) (ap settled_to x.begun ∙ settled_other (done_of h) x.o unsettled) in
    omega (arith, e, low)

known_at_answer : (first : Opening) (h : Journal) (r : Reply) → Conducted first h → IsNextTask first (tell r) h → (b : Bool) → is_answer r ≡ b → settled_ticks first h ≤ known_of h
    → settled_ticks first (at_port (answered r) ∷ h) ≤ known_of h
known_at_answer first h r c next true is low =
    subst (λ (b : Bool). low_at (cond b (outcomes_of h) (done_of h)) (counts_of first h) ≤ known_of h) (sym is)
    (answered_in_line first h r next is (phase_is first h c) (λ (x : InLine first h). settling_line first h r c next is x x.o.settles refl low))
known_at_answer first h r c next false is low = subst (λ (b : Bool). low_at (cond b (outcomes_of h) (done_of h)) (counts_of first h) ≤ known_of h) (sym is) low

-- all lines that were begun are answered, but for one at most
pub record Standing (h : Journal) : Type 0 where
  pub more : List Outcome
  pub begun : outcomes_of h ≡ done_of h ++ more
  pub few : length more ≤ 1

pub standing : (first : Opening) (h : Journal) → Phase first h → Standing h
standing first h (in_line x) = record { more = x.o ∷ []; begun = x.begun; few = omega arith }
standing first h (unanswered z) = record { more = z.o ∷ []; begun = z.begun; few = omega arith }
standing first h (between y) = record { more = []; begun = y.all ∙ sym (append-nil (done_of h)); few = omega arith }

-- those that were answered come first
done_first : (first : Opening) (h : Journal) → Conducted first h → take (length (done_of h)) (outcomes_of h) ≡ done_of h
done_first first h c =
    let x = standing first h (phase_is first h c) in
    ap (take (length (done_of h))) x.begun ∙ take-append-le (length (done_of h)) (done_of h) x.more (omega arith) ∙ take_all (length (done_of h)) (done_of h) (omega arith)

done_few : (first : Opening) (h : Journal) → Conducted first h → length (done_of h) ≤ length (outcomes_of h)
done_few first h c =
    let x = standing first h (phase_is first h c) in
    let e = ap (λ (os : List Outcome). length os) x.begun ∙ length-append (done_of h) x.more in
    omega (arith, e)

known_began : (first : Opening) (h : Journal) (o : Outcome) → Conducted first h → has_limited h ≡ false → settled_ticks first h ≤ known_of h → settled_ticks first (began o ∷ h) ≤ known_of h
known_began first h o c none low =
    let few : settled_to (done_of h) ≤ length (counts_of first h) =
    (let a = settled_below (done_of h) in let b = done_few first h c in let d = length_counts first h c in omega (arith, a, b, d)) in
    let e : settled_ticks first (began o ∷ h) ≡ settled_ticks first h =
    ap (λ (ns : List ℕ). sum (take (settled_to (done_of h)) ns)) (counts_begun first h o c none)
    ∙ ap sum (take-append-le (settled_to (done_of h)) (counts_of first h) (ticks_asked_for o ∷ []) few) in
    omega (arith, e, low)

known_cut : (first : Opening) (h : Journal) (k : ℕ) → Conducted first (cut k ∷ h) → settled_ticks first h ≤ known_of h → settled_ticks first (cut k ∷ h) ≤ known_of h
known_cut first h k c low =
    let front = done_first first h c.1 in
    let same : settled_to (take (length (done_of h)) (outcomes_of h)) ≡ settled_to (done_of h) = ap settled_to front in
    let less = low_behind first h k c (length (done_of h)) in
    let was : fewest (length (done_of h)) (outcomes_of h) (counts_of first h) ≡ settled_ticks first h = ap (λ (n : ℕ). sum (take n (counts_of first h))) same in
    let now : fewest (length (done_of h)) (outcomes_of h) (counts_of first (cut k ∷ h)) ≡ settled_ticks first (cut k ∷ h) = ap (λ (n : ℕ). sum (take n (counts_of first (cut k ∷ h)))) same in
    omega (arith, less, was, now, low)

known_halted : (first : Opening) (h : Journal) → Conducted first (halted ∷ h) → settled_ticks first h ≤ known_of h → settled_ticks first (halted ∷ h) ≤ known_of h
known_halted first h c low =
    let front = done_first first h c.1 in
    let same : settled_to (take (length (done_of h)) (outcomes_of h)) ≡ settled_to (done_of h) = ap settled_to front in
    let less = halt_low first h c (length (done_of h)) in
    let was : fewest (length (done_of h)) (outcomes_of h) (counts_of first h) ≡ settled_ticks first h = ap (λ (n : ℕ). sum (take n (counts_of first h))) same in
    let now : fewest (length (done_of h)) (outcomes_of h) (counts_of first (halted ∷ h)) ≡ settled_ticks first (halted ∷ h) = ap (λ (n : ℕ). sum (take n (counts_of first (halted ∷ h)))) same in
    omega (arith, less, was, now, low)

pub settled_is_known : (first : Opening) (h : Journal) → Conducted first h → settled_ticks first h ≤ known_of h
settled_is_known first [] c = omega arith
settled_is_known first (at_port (answered r) ∷ h) c = known_at_answer first h r c.1 c.0.next (is_answer r) refl (settled_is_known first h c.1)
settled_is_known first (at_port (loaded done) ∷ h) c = let low = settled_is_known first h c.1 in let more = c.0.later in omega (arith, low, more)
settled_is_known first (at_port (found_halt done) ∷ h) c = absurd c.0
settled_is_known first (began o ∷ h) c = known_began first h o c.1 c.0.calm (settled_is_known first h c.1)
settled_is_known first (did a ps ∷ h) c =
    subst (λ (ns : List ℕ). low_at (done_of h) ns ≤ known_of h) (sym (counts_did first h a ps c)) (settled_is_known first h c.1)
settled_is_known first (cut k ∷ h) c = known_cut first h k c (settled_is_known first h c.1)
settled_is_known first (halted ∷ h) c = known_halted first h c (settled_is_known first h c.1)
settled_is_known first (_ ∷ h) c = settled_is_known first h c.1

-- ---- and stands while no line moves behind it

-- whether a line moves behind the last that settled, up to the one that was begun last
abbrev moving_of : List Outcome → List Outcome → Bool
moving_of done all = list_any moves (drop (settled_to done) all)

abbrev pub moving : Journal → Bool
moving h = moving_of (done_of h) (outcomes_of h)

calm_began : (first : Opening) (h : Journal) (o : Outcome) → Conducted first (began o ∷ h) → Between first h → moving (began o ∷ h) ≡ false → (moving h ≡ false → Calm first h) → Calm first (began o ∷ h)
calm_began first h o c y none calm =
    let s = settled_to (done_of h) in
    let few : s ≤ length (outcomes_of h) = (let a = settled_below (done_of h) in let b = ap (λ (os : List Outcome). length os) y.all in omega (arith, a, b)) in
    let e : moving (began o ∷ h) ≡ (moving h || (has_moves o.work || false)) =
    ap (list_any moves) (drop-append-le s (outcomes_of h) (o ∷ []) few) ∙ list_any-append moves (drop s (outcomes_of h)) (o ∷ []) in
    let both = or_false (moving h) (has_moves o.work || false) (sym e ∙ none) in
    calm_on first (began o) h c (or_false (has_moves o.work) false both.1).0 (calm both.0)

calm_end : (first : Opening) (h : Journal) (r : Reply) → Conducted first (at_port (answered r) ∷ h) → is_answer r ≡ true → (x : InLine first h) → (b : Bool) → x.o.settles ≡ b
    → moving_of (outcomes_of h) (outcomes_of h) ≡ false → (moving h ≡ false → Calm first h) → Calm first (at_port (answered r) ∷ h)
calm_end first h r c is x true settles none calm = by_rest (rested_is first h c.1 x.going (x.moved settles))
  where
    by_rest : Rested first h → Calm first (at_port (answered r) ∷ h)
    by_rest (inl will) = absurd (let e = sym (ap comes_to_rest (only_answer first h r c.0.next (answer_ends first h r c.0.next is x.left))) ∙ will in cc)
    by_rest (inr here) = calm_on first (at_port (answered r)) h c tt here
calm_end first h r c is x false unsettled none calm =
    let e : settled_to (outcomes_of h) ≡ settled_to (done_of h) = ap settled_to x.begun ∙ settled_other (done_of h) x.o unsettled in
    calm_on first (at_port (answered r)) h c tt (calm (sym (ap (λ (n : ℕ). list_any moves (drop n (outcomes_of h))) e) ∙ none))

calm_answer : (first : Opening) (h : Journal) (r : Reply) → Conducted first (at_port (answered r) ∷ h) → (b : Bool) → is_answer r ≡ b
    → moving (at_port (answered r) ∷ h) ≡ false → (moving h ≡ false → Calm first h) → Calm first (at_port (answered r) ∷ h)
calm_answer first h r c true is none calm =
    let moved = sym (ap (λ (b : Bool). moving_of (cond b (outcomes_of h) (done_of h)) (outcomes_of h)) is) ∙ none in
    answered_in_line first h r c.0.next is (phase_is first h c.1) (λ (x : InLine first h). calm_end first h r c is x x.o.settles refl moved calm)
calm_answer first h r c false is none calm =
    calm_on first (at_port (answered r)) h c tt (calm (sym (ap (λ (b : Bool). moving_of (cond b (outcomes_of h) (done_of h)) (outcomes_of h)) is) ∙ none))

pub calm_is : (first : Opening) (h : Journal) → Conducted first h → moving h ≡ false → Calm first h
calm_is first [] c none = opens_calm first c
calm_is first (at_port (answered r) ∷ h) c none = calm_answer first h r c (is_answer r) refl none (calm_is first h c.1)
calm_is first (began o ∷ h) c none =
    free_between first h c.0.free c.0.calm (phase_is first h c.1) (λ (y : Between first h). calm_began first h o c y none (calm_is first h c.1))
calm_is first (s ∷ h) c none = calm_on first s h c tt (calm_is first h c.1 none)
