-- The offsets that a line sets.
use Rattle.std.specs.Prelude.{ℕ, ◌*◌, Bool, false, not, ◌&&◌, ◌==◌, if◌then◌else◌, List, ◌-ℤ◌, nat_abs, unwrap_or, option_map, Some, None}
use Rattle.std.specs.declared.option.Option.{Option}
use Rattle.units.specs.declared.Decimal.{Decimal}
use Rattle.units.specs.declared.Nm3.{Nm3}
use Rattle.units.specs.Lengths.{minus}
use Rattle.gcode_words.specs.declared.Word.{Word}
use Rattle.code_table.specs.Tables.{code}
use Rattle.modal_state.specs.declared.Parser.{Parser}
use Rattle.modal_state.specs.Modes.{offset_of}
use Rattle.line_words.specs.Letters.{L, P}
use Rattle.line_words.specs.Codes.{has_g, is_negative}
use Rattle.line_words.specs.Given.{given, whole_given}
use Rattle.line_words.specs.LineModes.{system_of}
use Rattle.line_words.specs.Targets.{named, replaced, line_offset}
use Rattle.line_words.specs.declared.axes.Lengths.{Lengths}

abbrev pub is_exactly : ℕ → Option Decimal → Bool
is_exactly n None = false
is_exactly n (Some v) = not (is_negative v) && (nat_abs v.micro == n * 1000000)

-- the value behind L is a whole number
abbrev pub has_l : ℕ → List Word → Bool
has_l n ws = is_exactly n (given L ws)

-- the system that a G10 sets: that of P, and with P0 or no P the line's
abbrev pub set_system : Parser → List Word → ℕ
set_system p ws = let n = unwrap_or (whole_given P ws) 0 in if n == 0 then system_of p ws else n

-- a point less the length on each named axis
abbrev pub less : Nm3 → Lengths → Lengths
less from n = record { x = option_map (λ v. from.x -ℤ v) n.x; y = option_map (λ v. from.y -ℤ v) n.y; z = option_map (λ v. from.z -ℤ v) n.z }

-- The new offset of the system by G10. With L2 the named axes become the values; with L20 they become such that the
-- position has the values there.
unfoldable pub new_system_offset : Parser → List Word → Nm3
new_system_offset p ws =
    let old = offset_of p.offsets (set_system p ws) in
    if has_l 2 ws then replaced old (named p ws) else
    replaced old (less (minus p.pos_nm p.offsets.g92) (named p ws))

-- the new offset by G92: the position has the values on the named axes
unfoldable pub new_g92 : Parser → List Word → Nm3
new_g92 p ws = replaced p.offsets.g92 (less (minus p.pos_nm (line_offset p ws)) (named p ws))

-- the offset that G10 or G92 sets
abbrev pub new_offset : Parser → List Word → Option Nm3
new_offset p ws =
    if has_g (code 10 0) ws then Some (new_system_offset p ws) else
    if has_g (code 92 0) ws then Some (new_g92 p ws) else
    None
