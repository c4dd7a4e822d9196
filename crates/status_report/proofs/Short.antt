-- How long numbers and places can be.
use Rattle.std.proofs.Common.{◌/◌, ◌≤◌, ℤ, pos, negsuc, nat_abs, length, arith, length-append}
use Rattle.std.proofs.lemmas.Fmt.{length-decimal-le}
use Rattle.units.specs.Fixed.{fixed3, minus_sign}

sign_short : (v : ℤ) → length (minus_sign v) ≤ 1
sign_short (pos n) = omega arith
sign_short (negsuc n) = omega arith

pub fixed_short : (v : ℤ) → nat_abs v ≤ 2000000000000 → length (fixed3 v) ≤ 15
unfolding fixed3
fixed_short v h = simp length-append (omega (arith, sign_short v, length-decimal-le 10 (nat_abs v / 1000) (omega arith) (omega arith) (omega arith)))
