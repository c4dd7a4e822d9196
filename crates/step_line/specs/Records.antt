-- What kind a record is of, and which are recorded.
use Rattle.std.specs.Prelude.{◌≡◌, ◌^◌, ◌<◌, ◌≤◌, Bool, true, false}
use Rattle.step_line.specs.declared.Head.{Head}
use Rattle.step_line.specs.declared.Mark.{Mark}
use Rattle.step_line.specs.declared.Mark.TheVariants.{Dwell, Spindle, Coolant, Cut, Reset}
use Rattle.step_line.specs.declared.SpindleCode.TheVariants.{M3, M4, M5}
use Rattle.step_line.specs.declared.Record.{Record}
use Rattle.step_line.specs.declared.Record.TheVariants as kinds
use Rattle.step_line.specs.Events.{IsEvent}

-- whether a record is a tick: an event or a mark
abbrev pub is_tick : Record → Bool
is_tick (kinds.Head h) = false
is_tick (kinds.Event b) = true
is_tick (kinds.Mark m) = true
is_tick kinds.End = false

abbrev pub is_end : Record → Bool
is_end (kinds.Head h) = false
is_end (kinds.Event b) = false
is_end (kinds.Mark m) = false
is_end kinds.End = true

-- lines and events are counted from 1, and each number is one that its field has room for
pub record IsHead (h : Head) : Type 0 where
  pub line : (1 ≤ h.line) × (h.line < 2 ^ 32)
  pub n : (1 ≤ h.n) × (h.n < 2 ^ 32)
  pub w : h.w < 2 ^ 64
  pub cycles : h.cycles < 2 ^ 64

-- M5 has the speed 0, and each number is one that its field has room for
abbrev pub IsMark : Mark → Type 0
IsMark (Dwell ms) = ms < 2 ^ 64
IsMark (Spindle M3 speed) = speed < 2 ^ 32
IsMark (Spindle M4 speed) = speed < 2 ^ 32
IsMark (Spindle M5 speed) = speed ≡ 0
IsMark (Coolant on) = Unit {0}
IsMark (Cut line) = line < 2 ^ 32
IsMark (Reset line) = line < 2 ^ 32

-- a record that has a line
abbrev pub IsRecord : Record → Type 0
IsRecord (kinds.Head h) = IsHead h
IsRecord (kinds.Event b) = IsEvent b
IsRecord (kinds.Mark m) = IsMark m
IsRecord kinds.End = Unit {0}
