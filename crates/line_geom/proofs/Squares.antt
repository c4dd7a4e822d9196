-- Roots, compared by their squares.
use Rattle.std.proofs.Common.{ℕ, ◌+◌, ◌*◌, ◌≤◌, ◌<◌, arith, inl, inr}
use Rattle.std.proofs.Math.Nat.{mul-le-mul}
use Rattle.std.proofs.lemmas.Bool.{cases_lt}
use Rattle.units.specs.Roots.{IsRoot}

-- numbers whose squares are apart
square_le : (x r s : ℕ) → r * r ≤ x → x < (s + 1) * (s + 1) → r ≤ s
square_le x r s low high = elim (cases_lt s r) [
  | inl less ↦ let le : (s + 1) * (s + 1) ≤ r * r = mul-le-mul (omega arith) (omega arith) in omega arith
  | inr le ↦ le
]

pub root_above : (x r s : ℕ) → r * r ≤ x → IsRoot x s → r ≤ s
root_above x r s low is = square_le x r s low is.high

pub root_below : (x r s : ℕ) → IsRoot x r → x < (s + 1) * (s + 1) → r ≤ s
root_below x r s is high = square_le x r s is.low high
