-- Truths as numbers.
use Rattle.std.specs.Prelude.{ℕ, Bool, cond}

-- 1 if it holds, and 0 if it does not
abbrev pub one_if : Bool → ℕ
one_if holds = cond holds 1 0
