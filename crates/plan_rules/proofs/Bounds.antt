-- The bounds of a block's numbers.
use Rattle.std.proofs.Common.{◌≡◌, ℕ, ◌+◌, ◌*◌, ◌/◌, ◌≤◌, List, ◌∷◌, subst, arith}
use Rattle.std.specs.List.{All}
use Rattle.std.proofs.lemmas.List.Elements.{All-head}
use Rattle.std.proofs.Math.Nat.{mul-le-mul, mul-le-mul_left, div-le_of_le-mul}
use Rattle.units.specs.declared.Rate.{Rate}
use Rattle.units.specs.declared.Rate.TheVariants.{Rapid, Feed, Jog}
use Rattle.line_geom.specs.Geometry.{IsBounded}
use Rattle.line_geom.proofs.Geometries.{bounded}
use Rattle.line_geom.specs.declared.Block.{Block}
use Rattle.overrides.specs.declared.Overrides.{Overrides}
use Rattle.overrides.specs.Percents.{IsOverrides, nominal_of}
use Rattle.plan_rules.specs.Blocks.{IsBlock, nominal_speed, squared, top_of, left_of}

pub bounds_of : (b : Block) → IsBlock b → IsBounded b.geom
bounds_of b is = bounded b.mv is.geom.limits b.geom is.geom.places is.geom.in_range is.geom.geom

-- the square of a rapid is below 2^50
pub rapid_small : (b : Block) → IsBlock b → squared b.geom.rapid ≤ 1111111088888889
rapid_small b is = let high = (bounds_of b is).rapid_high in mul-le-mul high high

nominal_le : (o : Overrides) (r : Rate) (n : ℕ) → IsOverrides o → 16 ≤ n → nominal_of o r n ≤ n
nominal_le o Rapid n is low =
    let le : n * o.rapid ≤ n * 100 = mul-le-mul_left n is.rapid_high in
    let le' : n * o.rapid ≤ 100 * n = omega (arith, le) in
    let quotient : n * o.rapid / 100 ≤ n = div-le_of_le-mul 100 le' in
    omega (arith, quotient)
nominal_le o (Feed feed) n is low = omega arith
nominal_le o (Jog feed) n is low = omega arith

pub nominal_below : (o : Overrides) (b : Block) → IsOverrides o → IsBlock b → nominal_speed o b ≤ b.geom.rapid
nominal_below o b is block = nominal_le o b.rate b.geom.rapid is (bounds_of b block).rapid_low

-- no block goes faster than its axes allow
pub top_le : (o : Overrides) (b : Block) → IsOverrides o → IsBlock b → top_of o b ≤ squared b.geom.rapid
unfolding top_of
top_le o b is block = let le = nominal_below o b is block in mul-le-mul le le

-- events that are left of the first of some blocks can be marked
pub prepared_small : (b : Block) (rest bs : List Block) (n : ℕ) → bs ≡ b ∷ rest → All IsBlock bs → n ≤ left_of b
    → (b.prepared + n ≤ 200000000) × (b.prepared + n ≤ b.geom.n)
prepared_small b rest bs n e all within =
    let is : IsBlock b = All-head IsBlock b rest (subst (All IsBlock) e all) in
    let high = (bounds_of b is).n_high in
    let left = is.left in
    (omega (arith, high, left, within), omega (arith, left, within))
