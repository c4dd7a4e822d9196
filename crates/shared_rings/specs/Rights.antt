-- A right that one seat of a table has, alone.
use Rattle.std.specs.Prelude.{◌≡◌, ℕ, Bool, true, List}
use mathlib.Core.Option.{some}
use lib.ListN.{get_elem?}

-- the view of one seat alone has the right, and what that seat has to know holds of it
abbrev pub Sole : {V : Type 0} → List V → (V → Bool) → ℕ → (V → Type 0) → Type 0
Sole {V} views may owner Knows = (j : ℕ) (v : V) → get_elem? views j ≡ some v → may v ≡ true → (j ≡ owner) × Knows v
