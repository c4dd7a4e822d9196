-- What is at a place of a log, of which the newest is first.
use Rattle.std.specs.Prelude.{ℕ, cond, nat_eq, List, [], ◌∷◌, length}
use mathlib.Core.Option.{Option, none, some}

-- the item before which so many came
abbrev pub placed : {A : Type 0} → List A → ℕ → Option A
placed [] k = none
placed (x ∷ earlier) k = cond (nat_eq k (length earlier)) (some x) (placed earlier k)
