-- What there is to do of the items of an accepted line: item by item, in their order.
use Rattle.std.specs.Prelude.{ℕ, ◌==◌, Bool, false, if◌then◌else◌, List, [], ◌∷◌, ◌++◌}
use Rattle.units.specs.declared.Rate.{Rate}
use Rattle.units.specs.declared.Move.{Move as Way}
use Rattle.settings.specs.declared.Settings.{Settings}
use Rattle.modal_state.specs.declared.SpindleMode.{SpindleMode}
use Rattle.modal_state.specs.declared.SpindleMode.TheVariants.{Off, Cw, Ccw}
use Rattle.step_line.specs.declared.SpindleCode.TheVariants.{M3, M4, M5}
use Rattle.step_line.specs.declared.Mark.{Mark}
use Rattle.step_line.specs.declared.Mark.TheVariants as marks
use Rattle.step_line.specs.declared.planned_move.PlannedMove.{PlannedMove}
use Rattle.step_line.specs.Counting.{events_of}
use Rattle.step_line.specs.Asking.{Asked}
use Rattle.step_line.specs.Asking.Asked.{a_move, a_mark, a_rest}
use Rattle.gcode_check.specs.declared.Item.{Item}
use Rattle.gcode_check.specs.declared.Item.TheVariants.{Spindle, Coolant, Dwell, Move, Pause, ProgramEnd}
use Rattle.status_report.specs.declared.Message.TheVariants as messages
use Rattle.status_report.specs.declared.Reply.TheVariants.{Message}
use Rattle.run_rules.specs.Work.{Task, asking}
use Rattle.run_rules.specs.Work.Task.{ask, tell, pause, normal}

-- how a spindle mode is recorded, with its speed
abbrev pub spindle_mark : SpindleMode → ℕ → Mark
spindle_mark Off speed = marks.Spindle M5 0
spindle_mark Cw speed = marks.Spindle M3 speed
spindle_mark Ccw speed = marks.Spindle M4 speed

-- a spindle that turns is turned off
abbrev pub spindle_off : SpindleMode → List Asked
spindle_off Off = []
spindle_off Cw = a_mark (spindle_mark Off 0) ∷ []
spindle_off Ccw = a_mark (spindle_mark Off 0) ∷ []

-- a coolant that flows is turned off
abbrev pub coolant_off : Bool → List Asked
coolant_off flood = if flood then a_mark (marks.Coolant false) ∷ [] else []

-- a move of a line, under the settings of that moment
abbrev pub planned : ℕ → Settings → Way → Rate → PlannedMove
planned line s mv rate = record { line = line; mv = mv; rate = rate; limits = s.limits; deviation = s.deviation }

-- a move of no steps is no move
abbrev pub move_asked : PlannedMove → List Asked
move_asked m = if events_of m.mv == 0 then [] else a_move m ∷ []

-- marks come when the machine stands, and are waited for
abbrev pub at_rest : List Asked → List Task
at_rest marks = ask a_rest ∷ asking marks ++ ask a_rest ∷ []

-- What there is to do of an item, while the spindle and the coolant are so: a move is asked for as it is, and each mark
-- of spindle, coolant and dwell at rest. A pause comes to rest, holds the machine, and is over when the machine stands
-- again. The end of a program runs all that is planned, turns off what is on, sets each override to 100 percent, and is
-- reported.
abbrev pub item_work : ℕ → Settings → SpindleMode → Bool → Item → List Task
item_work line s spindle flood (Spindle mode speed) = at_rest (a_mark (spindle_mark mode speed) ∷ [])
item_work line s spindle flood (Coolant on) = at_rest (a_mark (marks.Coolant on) ∷ [])
item_work line s spindle flood (Dwell ms) = at_rest (a_mark (marks.Dwell ms) ∷ [])
item_work line s spindle flood (Move mv rate) = asking (move_asked (planned line s mv rate))
item_work line s spindle flood Pause = ask a_rest ∷ pause ∷ ask a_rest ∷ []
item_work line s spindle flood ProgramEnd = at_rest (spindle_off spindle ++ coolant_off flood) ++ normal ∷ tell (Message messages.ProgramEnd) ∷ []

-- how the spindle turns after an item
abbrev pub spindle_after : SpindleMode → Item → SpindleMode
spindle_after spindle (Spindle mode speed) = mode
spindle_after spindle ProgramEnd = Off
spindle_after spindle _ = spindle

-- whether the coolant flows after an item
abbrev pub flood_after : Bool → Item → Bool
flood_after flood (Coolant on) = on
flood_after flood ProgramEnd = false
flood_after flood _ = flood

-- what there is to do of the items of a line, from a spindle mode and a coolant on
abbrev pub work_of : ℕ → Settings → SpindleMode → Bool → List Item → List Task
work_of line s spindle flood [] = []
work_of line s spindle flood (item ∷ items) =
    item_work line s spindle flood item ++ work_of line s (spindle_after spindle item) (flood_after flood item) items
