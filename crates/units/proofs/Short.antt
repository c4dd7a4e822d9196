-- How long a text with three decimals can be.
use Rattle.std.proofs.Common.{ℕ, ◌/◌, ◌^◌, ◌≤◌, ℤ, pos, negsuc, nat_abs, length, decimal, arith, length-append}
use Rattle.std.proofs.lemmas.Fmt.{length-decimal-le}
use Rattle.units.specs.Fixed.{fixed3, minus_sign}

pub whole_short : (m : ℕ) → m ≤ 2 ^ 63 → length (decimal (m / 1000)) ≤ 16
whole_short m h = length-decimal-le 16 (m / 1000) (omega arith) (omega arith) (omega arith)

sign_short : (v : ℤ) → length (minus_sign v) ≤ 1
sign_short (pos n) = omega arith
sign_short (negsuc n) = omega arith

pub fixed_short : (v : ℤ) → nat_abs v ≤ 2 ^ 63 → length (fixed3 v) ≤ 21
unfolding fixed3
fixed_short v h = simp length-append (omega (arith, sign_short v, whole_short (nat_abs v) h))

pub fixed_shorter : (v : ℤ) → nat_abs v ≤ 1000000000000 → length (fixed3 v) ≤ 15
unfolding fixed3
fixed_shorter v h =
    let whole : length (decimal (nat_abs v / 1000)) ≤ 10 = length-decimal-le 10 (nat_abs v / 1000) (omega arith) (omega arith) (omega arith) in
    simp length-append (omega (arith, sign_short v, whole))
