-- Two directions, multiplied in 128 bits.
use Rattle.std.proofs.Common.{◌≡◌, ◌*◌, ◌≤◌, ℤ, pos, negsuc, ◌+ℤ◌, ◌*ℤ◌, nat_abs, to_z, of_z, w32, refl, ap, ◌∙◌, arith}
use Rattle.std.proofs.Math.Nat.{mul-le-mul}
use Rattle.std.proofs.Math.Facts.{sfits_widen}
use Rattle.std.proofs.lemmas.Int.{ints, to_z-of_z, fits_signed_from_abs}
use Rattle.std.specs.Int.Signed.{nat_abs-le}
use mir.Syntax.{w128}
use mir.Val.{SFits}

-- a number of 32 bits, read in 128 bits
pub read : (a : ℤ) → SFits w32 a → to_z w128 (of_z w128 (to_z w32 (of_z w32 a))) ≡ a
read a f = ap (λ t. to_z w128 (of_z w128 t)) (to_z-of_z w32 a f) ∙ to_z-of_z w128 a (sfits_widen tt f)

size_of_product : (a b : ℤ) → nat_abs (a *ℤ b) ≡ nat_abs a * nat_abs b
size_of_product (pos m) (pos n) = refl
size_of_product (pos m) (negsuc n) = omega (arith, ints)
size_of_product (negsuc m) (pos n) = omega (arith, ints)
size_of_product (negsuc m) (negsuc n) = refl

pub product_small : (a b : ℤ) → SFits w32 a → SFits w32 b → nat_abs (a *ℤ b) ≤ 4611686018427387904
product_small a b f g =
    let le : nat_abs a * nat_abs b ≤ 2147483648 * 2147483648 = mul-le-mul (nat_abs-le a f.sfits) (nat_abs-le b g.sfits) in
    omega (arith, le, size_of_product a b)

-- what is small fits
pub fits : (a : ℤ) → nat_abs a ≤ 13835058055282163712 → SFits w128 a
fits a small = fits_signed_from_abs w128 a (omega (arith, small))

pub product_fits : (a b : ℤ) → SFits w32 a → SFits w32 b → SFits w128 (a *ℤ b)
product_fits a b f g = let small = product_small a b f g in fits (a *ℤ b) (omega (arith, small))

pub sum_small : (x y z : ℤ) → nat_abs x ≤ 4611686018427387904 → nat_abs y ≤ 4611686018427387904 → nat_abs z ≤ 4611686018427387904
    → (nat_abs (x +ℤ y) ≤ 13835058055282163712) × (nat_abs (x +ℤ y +ℤ z) ≤ 13835058055282163712)
sum_small x y z hx hy hz = (omega (arith, ints, hx, hy), omega (arith, ints, hx, hy, hz))

read_one : (x : ℤ) → nat_abs x ≤ 4611686018427387904 → to_z w128 (of_z w128 x) ≡ x
read_one x h = to_z-of_z w128 x (fits x (omega (arith, h)))

pub read_two : (x y : ℤ) → nat_abs x ≤ 4611686018427387904 → nat_abs y ≤ 4611686018427387904 → to_z w128 (of_z w128 x) +ℤ to_z w128 (of_z w128 y) ≡ x +ℤ y
read_two x y hx hy = rw (read_one x hx, read_one y hy) refl

pub read_three : (x y z : ℤ) → nat_abs x ≤ 4611686018427387904 → nat_abs y ≤ 4611686018427387904 → nat_abs z ≤ 4611686018427387904
    → to_z w128 (of_z w128 (to_z w128 (of_z w128 x) +ℤ to_z w128 (of_z w128 y))) +ℤ to_z w128 (of_z w128 z) ≡ x +ℤ y +ℤ z
read_three x y z hx hy hz =
    let two : to_z w128 (of_z w128 (x +ℤ y)) ≡ x +ℤ y = to_z-of_z w128 (x +ℤ y) (fits (x +ℤ y) (sum_small x y z hx hy hz).0) in
    rw (read_one x hx, read_one y hy, read_one z hz, two) refl

-- a product as a call told it
pub told : (r a b : ℤ) → SFits w32 a → SFits w32 b → r ≡ to_z w32 (of_z w32 a) *ℤ to_z w32 (of_z w32 b) → r ≡ a *ℤ b
told r a b f g is = rw (to_z-of_z w32 a f, to_z-of_z w32 b g) at is
