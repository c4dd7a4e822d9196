-- Signed numbers behind a cast to 64 bits and back.
use Rattle.std.proofs.Common.{◌≡◌, ℕ, ◌≤◌, ◌<◌, ◌^◌, ◌*◌, ◌+ℤ◌, ◌-ℤ◌, ℤ, pos, negsuc, nat_abs, to_z, of_z, w64, refl, ◌∙◌, arith}
use Rattle.std.proofs.lemmas.Int.{to_z-of_z}
use Rattle.units.specs.Lengths.{IsCoordinate}

-- a number that fits is kept
pub kept : (z : ℤ) → nat_abs z < 2 ^ 63 → to_z w64 (of_z w64 z) ≡ z
kept (pos n) near = to_z-of_z w64 (pos n) (record { sfits = omega arith })
kept (negsuc n) near = to_z-of_z w64 (negsuc n) (record { sfits = omega arith })

-- and is as near to zero
pub as_near : (bound : ℕ) (z : ℤ) → bound < 2 ^ 63 → nat_abs z ≤ bound → nat_abs (to_z w64 (of_z w64 z)) ≤ bound
as_near bound z low near = rw (kept z (omega arith)) near

pub coordinate : (z : ℤ) → IsCoordinate z → IsCoordinate (to_z w64 (of_z w64 z))
coordinate z near = rw (kept z (omega (arith, near))) near

-- how far two coordinates are apart
pub apart : (n : ℕ) (a b : ℤ) → IsCoordinate a → IsCoordinate b → n ≡ nat_abs (to_z w64 (of_z w64 a) -ℤ to_z w64 (of_z w64 b)) → n ≡ nat_abs (a -ℤ b)
apart n a b near there e = e ∙ rw (kept a (omega (arith, near)), kept b (omega (arith, there))) refl

-- differences and sums of what is near
pub difference : (bound : ℕ) (a b r : ℤ) → 2 * bound < 2 ^ 63 → nat_abs a ≤ bound → nat_abs b ≤ bound → nat_abs r ≤ 2 * bound
    → r ≡ to_z w64 (of_z w64 a) -ℤ to_z w64 (of_z w64 b) → to_z w64 (of_z w64 r) ≡ a -ℤ b
difference bound a b r low near there size e = kept r (omega arith) ∙ e ∙ rw (kept a (omega arith), kept b (omega arith)) refl

pub sum : (bound : ℕ) (a b r : ℤ) → 2 * bound < 2 ^ 63 → nat_abs a ≤ bound → nat_abs b ≤ bound → nat_abs r ≤ 2 * bound
    → r ≡ to_z w64 (of_z w64 a) +ℤ to_z w64 (of_z w64 b) → to_z w64 (of_z w64 r) ≡ a +ℤ b
sum bound a b r low near there size e = kept r (omega arith) ∙ e ∙ rw (kept a (omega arith), kept b (omega arith)) refl
