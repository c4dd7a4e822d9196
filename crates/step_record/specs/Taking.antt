-- What the side that takes records has done.
use Rattle.std.specs.Prelude.{List, [], ◌∷◌, ◌++◌}
use Rattle.step_line.specs.declared.Record.{Record}
use Rattle.step_line.specs.Logs.{NewestFirst}

-- a record was taken, or none was found
pub data Event : Type 0 where
  took : Record → Event
  none : Event

abbrev pub Log : Type 0
Log = NewestFirst Event

-- the records that were taken, in order
abbrev pub records : Log → List Record
records [] = []
records (took r ∷ log) = records log ++ r ∷ []
records (none ∷ log) = records log
