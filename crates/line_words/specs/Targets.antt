-- Where the axis words of a line go.
use Rattle.std.specs.Prelude.{ℕ, ◌<◌, Bool, not, ◌&&◌, ◌||◌, if◌then◌else◌, List, [], ◌∷◌, ℤ, nat_abs, ◌+ℤ◌, unwrap_or, option_map, IfSome}
use Rattle.units.specs.declared.Nm3.{Nm3}
use Rattle.gcode_words.specs.declared.Word.{Word}
use Rattle.code_table.specs.Tables.{code}
use Rattle.modal_state.specs.declared.Parser.{Parser}
use Rattle.modal_state.specs.Modes.{offset_of, plus, origin_nm}
use Rattle.line_words.specs.Letters.{X, Y, Z}
use Rattle.line_words.specs.Codes.{has_g}
use Rattle.line_words.specs.Given.{given, names_axis}
use Rattle.line_words.specs.LineModes.{inch_of, relative_of, system_of, length_in}
use Rattle.line_words.specs.declared.axes.Lengths.{Lengths}

-- the lengths behind the axis letters
abbrev pub named : Parser → List Word → Lengths
named p ws = record {
  x = option_map (length_in (inch_of p ws)) (given X ws);
  y = option_map (length_in (inch_of p ws)) (given Y ws);
  z = option_map (length_in (inch_of p ws)) (given Z ws);
}

-- the named axes become these lengths, and the others stay
abbrev pub replaced : Nm3 → Lengths → Nm3
replaced at n = record { x = unwrap_or n.x at.x; y = unwrap_or n.y at.y; z = unwrap_or n.z at.z }

-- the named axes, each by so much further
abbrev pub shifted : Lengths → Nm3 → Lengths
shifted n by = record { x = option_map (λ v. v +ℤ by.x) n.x; y = option_map (λ v. v +ℤ by.y) n.y; z = option_map (λ v. v +ℤ by.z) n.z }

-- a point on the named axes
abbrev pub picked : Lengths → Nm3 → Lengths
picked n at = record { x = option_map (λ v. at.x) n.x; y = option_map (λ v. at.y) n.y; z = option_map (λ v. at.z) n.z }

-- the offset of the line's system
abbrev pub line_offset : Parser → List Word → Nm3
line_offset p ws = offset_of p.offsets (system_of p ws)

-- from where the values of a line count: with G53 from the origin of the machine, with G91 from the position, and with
-- G90 from the offsets
abbrev pub datum : Parser → List Word → Nm3
datum p ws =
    if has_g (code 53 0) ws then origin_nm else
    if relative_of p ws then p.pos_nm else
    plus (line_offset p ws) p.offsets.g92

-- the named axes go to their values, and the others keep their position
unfoldable pub target : Parser → List Word → Nm3
target p ws = replaced p.pos_nm (shifted (named p ws) (datum p ws))

-- The axis words are the motion's: no other command takes them, and G0, G1 or an axis word stands.
abbrev pub moves : List Word → Bool
moves ws =
    not (has_g (code 10 0) ws || has_g (code 28 0) ws || has_g (code 30 0) ws || has_g (code 92 0) ws)
    && (has_g (code 0 0) ws || has_g (code 1 0) ws || names_axis ws)

-- the target of a motion
abbrev pub targets_motion : Parser → List Word → List Nm3
targets_motion p ws = if moves ws && names_axis ws then target p ws ∷ [] else []

-- the targets on the way to a stored point: all axes go there, or else the named ones do, by way of the target
abbrev pub targets_home : Parser → List Word → Nm3 → List Nm3
targets_home p ws home =
    if names_axis ws then target p ws ∷ replaced (target p ws) (picked (named p ws) home) ∷ [] else home ∷ []

-- the points that a line moves to
unfoldable pub targets : Parser → List Word → List Nm3
targets p ws =
    if has_g (code 28 0) ws then targets_home p ws p.offsets.home28 else
    if has_g (code 30 0) ws then targets_home p ws p.offsets.home30 else
    targets_motion p ws

-- how long a way between two points that a parser keeps may be on an axis, in nm
abbrev pub longest : ℕ
longest = 200000000000000

-- a length that a word may say
abbrev pub IsLength : ℤ → Type 0
IsLength v = nat_abs v < 25400000000000000

pub record AreLengths (n : Lengths) : Type 0 where
  pub x : IfSome n.x IsLength
  pub y : IfSome n.y IsLength
  pub z : IfSome n.z IsLength
