-- Square roots in whole numbers.
use Rattle.std.specs.Prelude.{ℕ, zero, suc, ◌+◌, ◌*◌, ◌≤◌, ◌<◌, cond, nat_le}

-- r is the whole part of the square root of x
pub record IsRoot (x r : ℕ) : Type 0 where
  pub low : r * r ≤ x
  pub high : x < (r + 1) * (r + 1)

-- the greatest number up to a bound whose square is at most x
abbrev pub root_up_to : ℕ → ℕ → ℕ
root_up_to zero x = 0
root_up_to (suc b) x = cond (nat_le (suc b * suc b) x) (suc b) (root_up_to b x)

-- the whole part of the square root
unfoldable pub root_of : ℕ → ℕ
root_of x = root_up_to x x
