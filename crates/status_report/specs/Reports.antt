-- The text of a status report.
use Rattle.std.specs.Prelude.{ℕ, ◌<◌, ◌^◌, Bool, if◌then◌else◌, List, [], ◌∷◌, ◌++◌, flat_map, codes, decimal, Some, None}
use Rattle.std.specs.declared.option.Option.{Option}
use Rattle.units.specs.Lengths.{minus}
use Rattle.units.specs.declared.Nm3.{Nm3}
use Rattle.modal_state.specs.Modes.{IsWithin}
use Rattle.overrides.specs.declared.Overrides.{Overrides}
use Rattle.status_report.specs.Places.{listed, place_text}
use Rattle.status_report.specs.declared.reports.State.{State}
use Rattle.status_report.specs.declared.reports.State.TheVariants.{Idle, Run, Hold0, Hold1, Jog, Alarm}
use Rattle.status_report.specs.declared.reports.Report.{Report}
use Rattle.status_report.specs.declared.Reply.{Reply}
use Rattle.status_report.specs.declared.Reply.TheVariants as replies

abbrev pub state_name : State → List ℕ
state_name Idle = codes "Idle"
state_name Run = codes "Run"
state_name Hold0 = codes "Hold:0"
state_name Hold1 = codes "Hold:1"
state_name Jog = codes "Jog"
state_name Alarm = codes "Alarm"

-- the position of the machine, or of the work: that of the machine less the offset of the work
abbrev pub position_name : Bool → List ℕ
position_name machine = if machine then codes "MPos:" else codes "WPos:"

abbrev pub position_shown : Report → Nm3
position_shown r = if r.machine then r.at else minus r.at r.wco

-- the free blocks and bytes, if they are shown
abbrev pub buffer_fields : Option (ℕ × ℕ) → List (List ℕ)
buffer_fields None = []
buffer_fields (Some free) = (codes "Bf:" ++ listed (decimal free.0 ∷ decimal free.1 ∷ [])) ∷ []

abbrev pub position_field : Report → List ℕ
position_field r = position_name r.machine ++ place_text (position_shown r)

-- the feed, in mm per minute, and the spindle speed
abbrev pub speeds_field : ℕ → ℕ → List ℕ
speeds_field f s = codes "FS:" ++ listed (decimal f ∷ decimal s ∷ [])

abbrev pub offset_field : Nm3 → List ℕ
offset_field wco = codes "WCO:" ++ place_text wco

abbrev pub overrides_field : Overrides → List ℕ
overrides_field ov = codes "Ov:" ++ listed (decimal ov.feed ∷ decimal ov.rapid ∷ decimal ov.spindle ∷ [])

abbrev pub report_fields : Report → List (List ℕ)
report_fields r = position_field r ∷ buffer_fields r.buffer ++ speeds_field r.f r.s ∷ offset_field r.wco ∷ overrides_field r.ov ∷ []

-- each field after a bar
abbrev pub barred : List (List ℕ) → List ℕ
barred fields = flat_map (λ field. 124 ∷ field) fields

-- the state, and the fields
unfoldable pub report_text : Report → List ℕ
report_text r = codes "<" ++ state_name r.state ++ barred (report_fields r) ++ codes ">"

-- how far from zero the position of a report and its offset are at most, in thousandths of a mm
abbrev pub farthest_told : ℕ
farthest_told = 1000000000000

-- a report that the board can give
pub record IsReport (r : Report) : Type 0 where
  pub at : IsWithin farthest_told r.at
  pub wco : IsWithin farthest_told r.wco

-- the numbers of a buffer are bytes
abbrev pub HasBytes : Option (ℕ × ℕ) → Type 0
HasBytes None = Unit {0}
HasBytes (Some free) = (free.0 < 2 ^ 8) × (free.1 < 2 ^ 8)

-- each number of a report is as wide as its type
pub record HasWidths (r : Report) : Type 0 where
  pub buffer : HasBytes r.buffer
  pub f : r.f < 2 ^ 64
  pub s : r.s < 2 ^ 64
  pub feed : r.ov.feed < 2 ^ 8
  pub rapid : r.ov.rapid < 2 ^ 8
  pub spindle : r.ov.spindle < 2 ^ 8

-- A board can tell this: a report is one that it can give, each number as wide as its type.
abbrev pub CanBeTold : Reply → Type 0
CanBeTold (replies.Report r) = IsReport r × HasWidths r
CanBeTold _ = Unit {0}
