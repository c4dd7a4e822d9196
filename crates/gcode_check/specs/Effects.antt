-- The state that an accepted line leaves.
use Rattle.std.specs.Prelude.{ℕ, ◌||◌, Bool, ◌==◌, if◌then◌else◌, List, [], ◌∷◌, map}
use Rattle.units.specs.declared.Nm3.{Nm3}
use Rattle.units.specs.declared.Steps3.{Steps3}
use Rattle.gcode_words.specs.declared.Word.{Word}
use Rattle.code_table.specs.Tables.{code}
use Rattle.modal_state.specs.declared.Modal.{Modal}
use Rattle.modal_state.specs.declared.Offsets.{Offsets}
use Rattle.modal_state.specs.declared.Parser.{Parser}
use Rattle.modal_state.specs.Modes.{origin_nm, program_ended}
use Rattle.settings.specs.declared.Settings.{Settings}
use Rattle.line_words.specs.Codes.{has_g, has_m}
use Rattle.line_words.specs.LineModes.{motion_of, plane_of, inch_of, relative_of, system_of, spindle_of, flood_of, feed_of, rpm_of, tool_of}
use Rattle.line_words.specs.Targets.{targets}
use Rattle.travel_limits.specs.Reach.{steps3}
use Rattle.gcode_check.specs.NewOffsets.{set_system, new_system_offset, new_g92}

-- the modes after the line
abbrev pub modal_after : Parser → List Word → Modal
modal_after p ws = record {
  motion = motion_of p ws;
  plane = plane_of p ws;
  inch = inch_of p ws;
  relative = relative_of p ws;
  system = system_of p ws;
  spindle = spindle_of p ws;
  flood = flood_of p ws;
}

-- the offsets, with that of a system changed
abbrev pub with_offset : Offsets → ℕ → Nm3 → Offsets
with_offset offsets system at =
    if system == 1 then record offsets { s1 = at } else
    if system == 2 then record offsets { s2 = at } else
    if system == 3 then record offsets { s3 = at } else
    if system == 4 then record offsets { s4 = at } else
    if system == 5 then record offsets { s5 = at } else
    record offsets { s6 = at }

-- the offsets and stored points after the line
unfoldable pub offsets_after : Parser → List Word → Offsets
offsets_after p ws =
    if has_g (code 10 0) ws then with_offset p.offsets (set_system p ws) (new_system_offset p ws) else
    if has_g (code 92 0) ws then record p.offsets { g92 = new_g92 p ws } else
    if has_g (code 92 1) ws then record p.offsets { g92 = origin_nm } else
    if has_g (code 28 1) ws then record p.offsets { home28 = p.pos_nm } else
    if has_g (code 30 1) ws then record p.offsets { home30 = p.pos_nm } else
    p.offsets

-- the places in steps of the points that the line moves to
abbrev pub stops : Parser → Settings → List Word → List Steps3
stops p s ws = map (steps3 s.limits.per_mm) (targets p ws)

-- the last of some places, or where one stands
abbrev pub last_of : {A : Type 0} → A → List A → A
last_of at [] = at
last_of at (place ∷ places) = last_of place places

-- M2 and M30
abbrev pub ends_program : List Word → Bool
ends_program ws = has_m (code 2 0) ws || has_m (code 30 0) ws

-- the state behind moves to these points and places
unfoldable pub parser_moved : Parser → List Word → List Nm3 → List Steps3 → Parser
parser_moved p ws points places = record {
  modal = modal_after p ws;
  offsets = offsets_after p ws;
  pos_nm = last_of p.pos_nm points;
  pos_steps = last_of p.pos_steps places;
  feed = feed_of p ws;
  rpm = rpm_of p ws;
  tool = tool_of p ws;
}

-- the state after the line
unfoldable pub parser_after : Parser → List Word → List Nm3 → List Steps3 → Parser
parser_after p ws points places =
    if ends_program ws then program_ended (parser_moved p ws points places) else parser_moved p ws points places
