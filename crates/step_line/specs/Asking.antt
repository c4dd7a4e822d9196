-- What is asked of the machine, and its ticks.
use Rattle.std.specs.Prelude.{◌≤◌, ◌<◌, ◌^◌, List, [], ◌∷◌, map}
use Rattle.std.specs.List.{flat_map, filter}
use Rattle.units.specs.Lengths.{IsMove}
use Rattle.units.specs.Limits.{IsRate, IsLimits}
use Rattle.step_line.specs.declared.Mark.{Mark}
use Rattle.step_line.specs.declared.Record.{Record}
use Rattle.step_line.specs.declared.Record.TheVariants as kinds
use Rattle.step_line.specs.declared.planned_move.PlannedMove.{PlannedMove}
use Rattle.step_line.specs.Counting.{events_of}
use Rattle.step_line.specs.Events.{line_events}
use Rattle.step_line.specs.Records.{is_tick}

-- a move; a mark; or a rest: the machine is waited for until nothing is left to run
pub data Asked : Type 0 where
  a_move : PlannedMove → Asked
  a_mark : Mark → Asked
  a_rest : Asked

-- the moves among what is asked, in order
abbrev pub move_of : Asked → List PlannedMove
move_of (a_move m) = m ∷ []
move_of (a_mark m) = []
move_of a_rest = []

abbrev pub moves_of : List Asked → List PlannedMove
moves_of asked = flat_map move_of asked

-- its ticks, in order: all events of each move, and the marks; a rest has none
abbrev pub ticks_of_one : Asked → List Record
ticks_of_one (a_move m) = map kinds.Event (line_events m.mv)
ticks_of_one (a_mark m) = kinds.Mark m ∷ []
ticks_of_one a_rest = []

abbrev pub ticks_of_all : List Asked → List Record
ticks_of_all asked = flat_map ticks_of_one asked

-- the ticks among some records: their events and marks
abbrev pub ticks_among : List Record → List Record
ticks_among records = filter is_tick records

-- a move that may be planned: it has events, and each of its numbers is in range
pub record IsPlannedMove (m : PlannedMove) : Type 0 where
  pub line_low : 1 ≤ m.line
  pub line_high : m.line < 2 ^ 32
  pub places : IsMove m.mv
  pub rate : IsRate m.rate
  pub limits : IsLimits m.limits
  pub moves : 0 < events_of m.mv
