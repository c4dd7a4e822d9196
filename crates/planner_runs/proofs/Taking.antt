-- What a segment of the tail is.
use Rattle.std.proofs.Common.{◌≡◌, ◌≤◌, ◌<◌, ◌+◌, ◌-◌, ◌*◌, ◌/◌, ◌^◌, ◌⊎◌, ℕ, true, false, nat_eq, inl, inr, List, ◌∷◌, refl, sym, ap, ◌∙◌, subst, arith}
use Rattle.std.proofs.Math.Nat.{mul-le-mul, mul-le-mul_right, div-le_of_le-mul}
use Rattle.std.proofs.lemmas.Bool.Decides.{nat_tests}
use Rattle.std.proofs.lemmas.List.Elements.{All-head}
use Rattle.step_line.specs.declared.Segment.{Segment}
use Rattle.step_line.specs.Counting.{events_of}
use Rattle.line_geom.specs.declared.Block.{Block}
use Rattle.overrides.specs.declared.Overrides.{Overrides}
use Rattle.plan_rules.specs.Blocks.{IsBlock, left_of, squared}
use Rattle.plan_rules.specs.Plans.{Planned, IsReached}
use Rattle.plan_rules.specs.Segments.{IsGoing, IsHolding, IsLegal, cycles_of, moved}
use Rattle.plan_rules.proofs.Bounds.{bounds_of, rapid_small}
use Rattle.plan_rules.proofs.Reached.{plan_of, segment_steps, legal_step}
use Rattle.plan_rules.specs.Taking.{IsNext, IsTaken, ByMode}
use Rattle.plan_rules.specs.declared.Mode.{Mode}
use Rattle.plan_rules.specs.declared.Mode.TheVariants.{Go, Hold}
use Rattle.step_line.specs.declared.planned_move.PlannedMove.{PlannedMove}
use Rattle.legal_heads.specs.Moves.{fastest}
use Rattle.line_geom.proofs.Geometries.{geometry_has}
use Rattle.planner_runs.proofs.Runs.{next_segment}
use Rattle.planner_runs.proofs.Standing.{IsBlockOf}

-- some events of a move, by its block
pub record IsSegmentOfMove (m : PlannedMove) (b : Block) (w : ℕ) (s : Segment) : Type 0 where
  pub line : s.line ≡ m.line
  pub mv : s.mv ≡ m.mv
  pub first : s.first ≡ b.prepared
  pub w_in : s.w_in ≡ w
  pub some : 1 ≤ s.n
  pub left : s.n ≤ left_of b
  pub within : s.first + s.n ≤ events_of m.mv
  pub ends : s.n ≡ left_of b → s.first + s.n ≡ events_of m.mv
  pub few : s.n < 2 ^ 32
  pub rapid : s.w_in ≤ fastest m
  pub slow : s.w_in < 2 ^ 64
  pub cycles : s.cycles < 2 ^ 64

quotient_small : (a d : ℕ) → 1 ≤ d → (a + d - 1) / d ≤ a + 1
quotient_small a d some =
    let le : 1 * a ≤ d * a = mul-le-mul_right a some in
    let whole : a + d - 1 ≤ d * (a + 1) = omega (arith, le) in
    div-le_of_le-mul d whole

cycles_small : (b : Block) (pace : ℕ) → IsBlock b → 1 ≤ pace → cycles_of b pace < 2 ^ 64
cycles_small b pace is some =
    let bounds = bounds_of b is in
    let one : 1 * 1 ≤ b.geom.n * pace = mul-le-mul bounds.n_low some in
    let le = quotient_small (16000 * b.geom.length) (b.geom.n * pace) (omega (arith, one)) in
    let high = bounds.length_high in
    let few = bounds.n_high in
    omega (arith, le, high, few)

rule_of : (p : Planned) (b : Block) (mode : Mode) (n v : ℕ) → ByMode p b mode n v → IsGoing p b n v ⊎ IsHolding p b n v
rule_of p b Go n v is = inl is
rule_of p b Hold n v is = inr is

module _ (b : Block) (bs : List Block) (w : ℕ) (o : Overrides) (m : PlannedMove) (mode : Mode) (s : Segment)
    (is : IsReached (plan_of (b ∷ bs) w o)) (of : IsBlockOf m b) (next : IsNext (plan_of (b ∷ bs) w o) mode s) where
  pub segment_of_move : IsSegmentOfMove m b w s
  segment_of_move =
      let taken : IsTaken (plan_of (b ∷ bs) w o) b mode s = next in
      let steps = segment_steps b bs w s.n s.w_out o is (rule_of (plan_of (b ∷ bs) w o) b mode s.n s.w_out taken.rule) in
      let block : IsBlock b = All-head IsBlock b bs is.each in
      let bounds = bounds_of b block in
      let events = (geometry_has m.mv m.limits of.move.moves).n in
      let same : b.geom.n ≡ events_of m.mv = ap (λ g. g.n) of.geom ∙ events in
      let inside = steps.within in
      let left = block.left in
      let w_in = taken.w_in in
      let rapid : w ≤ squared b.geom.rapid = is.rapid in
      let small = rapid_small b block in
      record {
        line = taken.line ∙ of.line;
        mv = taken.mv ∙ of.mv;
        first = taken.first;
        w_in = w_in;
        some = steps.some;
        left = inside;
        within = omega (arith, taken.first, inside, left, same);
        ends = λ (all : s.n ≡ left_of b). omega (arith, taken.first, all, left, same);
        few = omega (arith, inside, bounds.n_high);
        rapid = subst (λ g. s.w_in ≤ squared g.rapid) of.geom (omega (arith, w_in, rapid));
        slow = omega (arith, w_in, rapid, small);
        cycles = subst (λ k. k < 2 ^ 64) (sym taken.cycles) (cycles_small b _ block (omega arith));
      }

  pub legal_of_move : IsLegal b bs w s.n s.w_out
  legal_of_move = legal_step (b ∷ bs) w s.n s.w_out o is (next_segment (plan_of (b ∷ bs) w o) mode s next)

-- what is left of the blocks: all but some events of the tail, or all but the tail
pub moved_gone : (b : Block) (bs : List Block) (n : ℕ) → n ≡ left_of b → bs ≡ moved n (b ∷ bs)
moved_gone b bs n same = let test : nat_eq n (left_of b) ≡ true = grind (arith, nat_tests) in rw test refl

pub moved_left : (b : Block) (bs : List Block) (n : ℕ) → n < left_of b → record b { prepared = b.prepared + n } ∷ bs ≡ moved n (b ∷ bs)
moved_left b bs n more = let test : nat_eq n (left_of b) ≡ false = grind (arith, nat_tests) in rw test refl
