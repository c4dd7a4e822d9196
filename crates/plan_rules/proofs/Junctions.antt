-- How many gaps and junctions blocks have.
use Rattle.std.proofs.Common.{◌≡◌, ℕ, ◌-◌, List, [], ◌∷◌, ◌++◌, length, refl, ap, arith}
use Rattle.std.proofs.lemmas.List.{length-map}
use Rattle.line_geom.specs.declared.Block.{Block}
use Rattle.plan_rules.specs.Blocks.{gap_of, gaps_of, joints}

pub length-gaps : (bs : List Block) → length (gaps_of bs) ≡ length bs
length-gaps bs = length-map bs gap_of

pub length-joints : (f : Block → Block → ℕ) (bs : List Block) → length (joints f bs) ≡ length bs - 1
length-joints f [] = refl
length-joints f (b ∷ []) = refl
length-joints f (a ∷ b ∷ bs) = let was = length-joints f (b ∷ bs) in omega (arith, was)

-- one more block makes one more junction
pub joints_push : (f : Block → Block → ℕ) (a : Block) (bs : List Block) (b : Block)
    → (h : ℕ) × (joints f (a ∷ bs ++ b ∷ []) ≡ joints f (a ∷ bs) ++ h ∷ [])
joints_push f a [] b = (f a b, refl)
joints_push f a (c ∷ cs) b = let more = joints_push f c cs b in (more.0, ap (λ hs. f a c ∷ hs) more.1)
