-- What is recorded of a run that was stopped before all of it was run, and ended there.
use Rattle.std.specs.Prelude.{◌≡◌, List, [], ◌∷◌, ◌++◌, None}
use Rattle.std.specs.List.{flat_map, AllByRecursion}
use Rattle.std.specs.declared.option.Option.{Option}
use Rattle.step_line.specs.declared.Record.{Record}
use Rattle.step_line.specs.declared.Record.TheVariants as kinds
use Rattle.step_line.specs.declared.planned_move.PlannedMove.{PlannedMove}
use Rattle.legal_heads.specs.declared.Told.{Told}
use Rattle.legal_heads.specs.declared.ToldHead.{ToldHead}
use Rattle.legal_heads.specs.Speeds.{AreLegal, IsToldRight, MayStop, begun_by, latest_behind, told_records}

-- the latest head of the stretch after all that is told
abbrev pub latest_of : Option ToldHead → List Told → Option ToldHead
latest_of before [] = before
latest_of before (t ∷ rest) = latest_of (latest_behind t) rest

-- Before the end the heads tell events of these moves, move by move and none left out, at legal speeds, and the machine
-- can stop over the events of the latest head. The end may break its move off, as a cut may: events may be left.
pub record HasHaltedHeads (moves : List PlannedMove) (records : List Record) : Type 0 where
  pub told : List Told
  pub recorded : records ≡ flat_map told_records told ++ kinds.End ∷ []
  pub each : AllByRecursion IsToldRight told
  pub rest : List PlannedMove
  pub in_order : moves ≡ flat_map begun_by told ++ rest
  pub legal : AreLegal told
  pub stops : MayStop (latest_of None told)
