-- Quotients of whole numbers, rounded to the nearest whole number; a half goes away from zero.
use Rattle.std.specs.Prelude.{◌≡◌, ℕ, ◌+◌, ◌*◌, ◌/◌, ◌≤◌, ◌<◌, ℤ, pos, negsuc, neg_ℤ, ◌-ℤ◌, ◌*ℤ◌, ◌≤ℤ◌, nat_abs}

-- a number with the sign of another
abbrev pub with_sign_of : ℤ → ℕ → ℤ
with_sign_of (pos n) m = pos m
with_sign_of (negsuc n) m = neg_ℤ (pos m)

-- a / d, rounded half away from zero
unfoldable pub rounded_quotient : ℤ → ℕ → ℤ
rounded_quotient a d = with_sign_of a ((2 * nat_abs a + d) / (2 * d))

-- r has the sign of a, or is zero
pub record KeepsSign (a r : ℤ) : Type 0 where
  pub up : pos 0 ≤ℤ a → pos 0 ≤ℤ r
  pub down : a ≤ℤ pos 0 → r ≤ℤ pos 0

-- r is the whole number nearest to a / d: twice the distance, in parts of d, is at most d
pub record IsNearest (a : ℤ) (d : ℕ) (r : ℤ) : Type 0 where
  pub near : 2 * nat_abs (a -ℤ (r *ℤ pos d)) ≤ d
  -- if it is d, two numbers are equally near, and r is the one farther from zero
  pub tie : 2 * nat_abs (a -ℤ (r *ℤ pos d)) ≡ d → nat_abs a < nat_abs r * d
  pub sign : KeepsSign a r
