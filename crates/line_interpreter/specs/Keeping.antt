-- What is kept of a line.
use Rattle.std.specs.Prelude.{◌≡◌, ℕ, Bool, List, take, length, nat_lt}
use Rattle.run_rules.specs.Outcomes.{most_kept}

-- the first bytes, and whether there were more
pub record Keeping : Type 0 where
  pub bytes : List ℕ
  pub over : Bool

-- of these bytes
pub record IsKept (line : Keeping) (kept : List ℕ) : Type 0 where
  pub bytes_are : line.bytes ≡ take most_kept kept
  pub over_is : line.over ≡ nat_lt most_kept (length kept)
