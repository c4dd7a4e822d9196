-- The modes of a line: those of its words, and else the parser's.
use Rattle.std.specs.Prelude.{ℕ, nat_eq, Bool, true, false, if◌then◌else◌, List, [], ◌∷◌, ℤ, unwrap_or, option_map, option_and_then}
use Rattle.std.specs.Map.{lookup}
use Rattle.units.specs.declared.Decimal.{Decimal}
use Rattle.units.specs.Lengths.{nm_of_inch}
use Rattle.gcode_words.specs.declared.Word.{Word}
use Rattle.code_table.specs.Tables.{code, motion_group, plane_group, units_group, distance_group, system_group, spindle_group, coolant_group}
use Rattle.modal_state.specs.declared.MotionMode.{MotionMode}
use Rattle.modal_state.specs.declared.MotionMode.TheVariants.{G0, G1, G80}
use Rattle.modal_state.specs.declared.SpindleMode.{SpindleMode}
use Rattle.modal_state.specs.declared.SpindleMode.TheVariants.{Off, Cw, Ccw}
use Rattle.modal_state.specs.declared.Parser.{Parser}
use Rattle.line_words.specs.Letters.{F, S, T}
use Rattle.line_words.specs.Codes.{code_in}
use Rattle.line_words.specs.Given.{given, whole_given}

-- a mode is that of the line's code in its group, else the parser's
abbrev pub mode_of : {M : Type 0} → ℕ → List (ℕ × M) → M → List Word → M
mode_of group modes before ws = unwrap_or (option_and_then (λ key. lookup (nat_eq key) modes) (code_in group ws)) before

-- the modes that the codes of each group ask for
abbrev pub motions : List (ℕ × MotionMode)
motions = (code 0 0, G0) ∷ (code 1 0, G1) ∷ (code 80 0, G80) ∷ []

abbrev pub planes : List (ℕ × ℕ)
planes = (code 17 0, 17) ∷ (code 18 0, 18) ∷ (code 19 0, 19) ∷ []

-- whether lengths are in inches
abbrev pub inches : List (ℕ × Bool)
inches = (code 20 0, true) ∷ (code 21 0, false) ∷ []

-- whether lengths count from the position
abbrev pub distances : List (ℕ × Bool)
distances = (code 90 0, false) ∷ (code 91 0, true) ∷ []

abbrev pub coordinates : List (ℕ × ℕ)
coordinates = (code 54 0, 1) ∷ (code 55 0, 2) ∷ (code 56 0, 3) ∷ (code 57 0, 4) ∷ (code 58 0, 5) ∷ (code 59 0, 6) ∷ []

abbrev pub spindles : List (ℕ × SpindleMode)
spindles = (code 3 0, Cw) ∷ (code 4 0, Ccw) ∷ (code 5 0, Off) ∷ []

-- whether the coolant flows
abbrev pub coolants : List (ℕ × Bool)
coolants = (code 8 0, true) ∷ (code 9 0, false) ∷ []

abbrev pub motion_of : Parser → List Word → MotionMode
motion_of p ws = mode_of motion_group motions p.modal.motion ws

abbrev pub plane_of : Parser → List Word → ℕ
plane_of p ws = mode_of plane_group planes p.modal.plane ws

abbrev pub inch_of : Parser → List Word → Bool
inch_of p ws = mode_of units_group inches p.modal.inch ws

abbrev pub relative_of : Parser → List Word → Bool
relative_of p ws = mode_of distance_group distances p.modal.relative ws

abbrev pub system_of : Parser → List Word → ℕ
system_of p ws = mode_of system_group coordinates p.modal.system ws

abbrev pub spindle_of : Parser → List Word → SpindleMode
spindle_of p ws = mode_of spindle_group spindles p.modal.spindle ws

abbrev pub flood_of : Parser → List Word → Bool
flood_of p ws = mode_of coolant_group coolants p.modal.flood ws

-- a value in millionths is in nm where it is in millimetres
abbrev pub length_in : Bool → Decimal → ℤ
length_in inch v = if inch then nm_of_inch v.micro else v.micro

-- in nm per minute
abbrev pub feed_of : Parser → List Word → ℤ
feed_of p ws = unwrap_or (option_map (length_in (inch_of p ws)) (given F ws)) p.feed

abbrev pub rpm_of : Parser → List Word → ℕ
rpm_of p ws = unwrap_or (whole_given S ws) p.rpm

abbrev pub tool_of : Parser → List Word → ℕ
tool_of p ws = unwrap_or (whole_given T ws) p.tool
