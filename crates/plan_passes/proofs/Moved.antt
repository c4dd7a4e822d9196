-- The blocks once a segment of the tail is taken.
use Rattle.std.proofs.Common.{◌≡◌, ◌≢◌, ℕ, ◌+◌, ◌-◌, ◌*◌, ◌^◌, ◌≤◌, ◌<◌, List, ◌∷◌, cond, nat_eq, true, false, arith, ap, sym, ◌∙◌, subst}
use Rattle.std.specs.List.{All}
use Rattle.std.proofs.Math.Nat.{mul-le-mul}
use Rattle.std.proofs.lemmas.List.Elements.{All-head}
use Rattle.std.proofs.lemmas.Bool.Decides.{nat_tests}
use Rattle.line_geom.specs.declared.Block.{Block}
use Rattle.plan_rules.specs.Blocks.{IsBlock, left_of}
use Rattle.plan_rules.specs.Segments.{moved}
use Rattle.plan_rules.proofs.Bounds.{bounds_of}
use Rattle.plan_rules.proofs.Reached.{gone_gap}

-- nothing of the tail is left
pub tail_gone : (b : Block) (bs bs' : List Block) (n : ℕ) → bs' ≡ moved n (b ∷ bs) → n ≡ left_of b → bs' ≡ bs
tail_gone b bs bs' n e same =
    let test : nat_eq n (left_of b) ≡ true = grind (arith, nat_tests) in
    e ∙ ap (λ t. cond t bs (record b { prepared = b.prepared + n } ∷ bs)) test

-- some of it is left
tail_other : (b : Block) (bs bs' : List Block) (n : ℕ) → bs' ≡ moved n (b ∷ bs) → n ≢ left_of b
    → bs' ≡ record b { prepared = b.prepared + n } ∷ bs
tail_other b bs bs' n e other =
    let test : nat_eq n (left_of b) ≡ false = grind (arith, nat_tests) in
    e ∙ ap (λ t. cond t bs (record b { prepared = b.prepared + n } ∷ bs)) test

-- and so is a gap
pub tail_left : (b : Block) (bs bs' : List Block) (n g : ℕ) → bs' ≡ moved n (b ∷ bs) → g ≡ b.geom.q * (left_of b - n) → g ≢ 0
    → bs' ≡ record b { prepared = b.prepared + n } ∷ bs
tail_left b bs bs' n g e now left =
    tail_other b bs bs' n e (λ same. left (now ∙ gone_gap b n same))

-- the events of the first of some blocks are marked
module _ (b : Block) (rest bs : List Block) (n : ℕ) (e : bs ≡ b ∷ rest) where
  pub marked_gone : (now : List Block) → n ≤ left_of b → b.geom.n - (b.prepared + n) ≡ 0 → now ≡ rest → now ≡ moved n bs
  marked_gone now within none is =
      let same : n ≡ left_of b = omega arith in
      is ∙ sym (tail_gone b rest (moved n bs) n (ap (moved n) e) same)

  pub marked_left : n ≤ left_of b → b.geom.n - (b.prepared + n) ≢ 0 → record b { prepared = b.prepared + n } ∷ rest ≡ moved n bs
  marked_left within some =
      let other : n ≢ left_of b = omega arith in
      sym (tail_other b rest (moved n bs) n (ap (moved n) e) other)

  pub marked_gap : (c : Block) (cs : List Block) → bs ≡ c ∷ cs → b.geom.q * (b.geom.n - (b.prepared + n)) ≡ c.geom.q * (left_of c - n)
  marked_gap c cs is =
      let same : b ≡ c = cc in
      let on : b.geom.n - (b.prepared + n) ≡ left_of b - n = omega arith in
      ap (λ k. b.geom.q * k) on ∙ ap (λ b. b.geom.q * (left_of b - n)) same

  pub marked_small : All IsBlock bs → b.geom.q * (b.geom.n - (b.prepared + n)) < 2 ^ 71
  marked_small all =
      let bounds = bounds_of b (All-head IsBlock b rest (subst (All IsBlock) e all)) in
      let few : b.geom.n - (b.prepared + n) ≤ 200000000 = omega (arith, bounds.n_high) in
      let le : b.geom.q * (b.geom.n - (b.prepared + n)) ≤ 8000000000000 * 200000000 = mul-le-mul bounds.q_high few in
      omega (arith, le)
