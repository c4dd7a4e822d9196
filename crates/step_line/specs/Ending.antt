-- Records and their end.
use Rattle.std.specs.Prelude.{◌≡◌, ◌≢◌, List, [], ◌∷◌, ◌++◌}
use Rattle.std.specs.List.{All}
use Rattle.step_line.specs.declared.Record.{Record}
use Rattle.step_line.specs.declared.Record.TheVariants as kinds

-- the end is not among these records
abbrev pub HasNoEnd : List Record → Type 0
HasNoEnd rs = All (λ r. r ≢ kinds.End) rs

-- the records end with the end, which comes once
pub record IsEnded (rs : List Record) : Type 0 where
  pub front : List Record
  pub last : rs ≡ front ++ kinds.End ∷ []
  pub once : HasNoEnd front
