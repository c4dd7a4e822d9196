-- The events among records, and those of moves.
use Rattle.std.specs.Prelude.{Bool, true, false, List, map}
use Rattle.std.specs.List.{filter, AllByRecursion}
use Rattle.step_line.specs.declared.Mark.TheVariants.{Cut, Reset}
use Rattle.step_line.specs.declared.Record.{Record}
use Rattle.step_line.specs.declared.Record.TheVariants.{Head, Event, Mark, End}
use Rattle.step_line.specs.declared.planned_move.PlannedMove.{PlannedMove}
use Rattle.step_line.specs.Events.{line_events}

-- all events of a move, as they are recorded
abbrev pub move_events : PlannedMove → List Record
move_events m = map Event (line_events m.mv)

abbrev pub is_event : Record → Bool
is_event (Head h) = false
is_event (Event b) = true
is_event (Mark m) = false
is_event End = false

-- the events among some records
abbrev pub events_among : List Record → List Record
events_among records = filter is_event records

-- no move is broken off among them
abbrev pub IsNoCut : Record → Type 0
IsNoCut (Mark (Cut line)) = ⊥
IsNoCut (Mark (Reset line)) = ⊥
IsNoCut r = Unit {0}

abbrev pub HasNoCut : List Record → Type 0
HasNoCut records = AllByRecursion IsNoCut records
