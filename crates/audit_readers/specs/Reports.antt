-- Reading a status report from the front of a text, part by part: what the readers of the code answer.
use Rattle.std.specs.Prelude.{ℕ, ◌+◌, ◌-◌, ◌*◌, Bool, true, false, cond, ◌&&◌, nat_eq, nat_le, nat_lt, ℤ, pos, ◌-ℤ◌, ◌+ℤ◌, List, [], ◌∷◌, codes, Option, Some, None}
use Rattle.std.specs.Char.{is_ascii_digit}
use Rattle.units.specs.declared.Nm3.{Nm3}
use Rattle.overrides.specs.declared.Overrides.{Overrides}
use Rattle.status_report.specs.declared.reports.Report.{Report}
use Rattle.status_report.specs.declared.reports.State.{State}
use Rattle.status_report.specs.declared.reports.State.TheVariants.{Idle, Run, Hold0, Hold1, Jog, Alarm}
use Rattle.step_record.specs.Reading.{Read, ◌>>=◌, ◌or◌, behind_name, number_at}

-- ---- numbers

-- a number of one byte, which another byte ends
unfoldable pub byte_at : List ℕ → ℕ → Read ℕ
byte_at text end = do
  n ← number_at text end
  cond (nat_lt n.0 256) (Some n) None

-- three digits, which a byte ends
unfoldable pub fraction_at : List ℕ → ℕ → Read ℕ
fraction_at (a ∷ b ∷ c ∷ e ∷ rest) end =
    cond (is_ascii_digit a && is_ascii_digit b && is_ascii_digit c && nat_eq e end) (Some ((a - 48) * 100 + (b - 48) * 10 + (c - 48), rest)) None
fraction_at (a ∷ b ∷ c ∷ []) end = None
fraction_at (a ∷ b ∷ []) end = None
fraction_at (a ∷ []) end = None
fraction_at [] end = None

-- the most mm that a report tells
abbrev pub most_mm : ℕ
most_mm = 2000000000

-- thousandths with three decimals
unfoldable pub magnitude_at : List ℕ → ℕ → Read ℕ
magnitude_at text end = do
  whole ← number_at text 46
  fraction ← fraction_at whole.1 end
  cond (nat_le whole.0 most_mm) (Some (whole.0 * 1000 + fraction.0, fraction.1)) None

abbrev pub as_positive : Read ℕ → Read ℤ
as_positive None = None
as_positive (Some n) = Some (pos n.0, n.1)

unfoldable pub negative_at : List ℕ → ℕ → Read ℤ
negative_at text end = do
  rest ← behind_name (codes "-") text
  n ← magnitude_at rest end
  Some (pos 0 -ℤ pos n.0, n.1)

unfoldable pub fixed_at : List ℕ → ℕ → Read ℤ
fixed_at text end = as_positive (magnitude_at text end) or negative_at text end

unfoldable pub place_at : List ℕ → ℕ → Read Nm3
place_at text end = do
  x ← fixed_at text 44
  y ← fixed_at x.1 44
  z ← fixed_at y.1 end
  Some (record { x = x.0; y = y.0; z = z.0 }, z.1)

-- ---- fields

-- a name, which stands for a value
abbrev pub named_at : {A : Type 0} → List ℕ → A → List ℕ → Read A
named_at name value text = do
  rest ← behind_name name text
  Some (value, rest)

unfoldable pub state_at : List ℕ → Read State
state_at text =
    named_at (codes "<Idle|") Idle text
    or named_at (codes "<Run|") Run text
    or named_at (codes "<Hold:0|") Hold0 text
    or named_at (codes "<Hold:1|") Hold1 text
    or named_at (codes "<Jog|") Jog text
    or named_at (codes "<Alarm|") Alarm text

-- whether the position is that of the machine
unfoldable pub machine_at : List ℕ → Read Bool
machine_at text = named_at (codes "MPos:") true text or named_at (codes "WPos:") false text

unfoldable pub free_at : List ℕ → Read (Option (ℕ × ℕ))
free_at text = do
  rest ← behind_name (codes "Bf:") text
  blocks ← byte_at rest 44
  bytes ← byte_at blocks.1 124
  Some (Some (blocks.0, bytes.0), bytes.1)

-- the free blocks and bytes, if they are told
unfoldable pub buffer_at : List ℕ → Read (Option (ℕ × ℕ))
buffer_at text = free_at text or Some (None, text)

unfoldable pub speeds_at : List ℕ → Read (ℕ × ℕ)
speeds_at text = do
  rest ← behind_name (codes "FS:") text
  feed ← number_at rest 44
  speed ← number_at feed.1 124
  Some ((feed.0, speed.0), speed.1)

unfoldable pub offset_at : List ℕ → Read Nm3
offset_at text = do
  rest ← behind_name (codes "WCO:") text
  place_at rest 124

unfoldable pub overrides_at : List ℕ → Read Overrides
overrides_at text = do
  rest ← behind_name (codes "Ov:") text
  feed ← byte_at rest 44
  rapid ← byte_at feed.1 44
  spindle ← byte_at rapid.1 62
  Some (record { feed = feed.0; rapid = rapid.0; spindle = spindle.0 }, spindle.1)

-- ---- a report

-- the position of the machine, by the one that is shown
abbrev pub machine_place : Bool → Nm3 → Nm3 → Nm3
machine_place machine shown wco = cond machine shown (record { x = shown.x +ℤ wco.x; y = shown.y +ℤ wco.y; z = shown.z +ℤ wco.z })

-- up to the bar that ends it, and what follows
unfoldable pub report_at : List ℕ → Read Report
report_at text = do
  state ← state_at text
  machine ← machine_at state.1
  shown ← place_at machine.1 124
  buffer ← buffer_at shown.1
  speeds ← speeds_at buffer.1
  wco ← offset_at speeds.1
  ov ← overrides_at wco.1
  Some (record { state = state.0; machine = machine.0; at = machine_place machine.0 shown.0 wco.0; buffer = buffer.0; f = speeds.0.0; s = speeds.0.1; wco = wco.0; ov = ov.0 }, ov.1)
