-- What refuses a line whose words pass.
use Rattle.std.specs.Prelude.{ℕ, Bool, true, false, not, ◌&&◌, ◌||◌, ◌==◌, List, [], ◌∷◌, ◌++◌, nat_abs, Some, None}
use Rattle.std.specs.List.{list_any}
use Rattle.std.specs.declared.option.Option.{Option}
use Rattle.units.specs.declared.Nm3.{Nm3}
use Rattle.gcode_words.specs.declared.Word.{Word}
use Rattle.code_table.specs.Tables.{code}
use Rattle.code_table.specs.Refusals.{first_refusal}
use Rattle.code_table.specs.declared.Code.{Code}
use Rattle.modal_state.specs.declared.MotionMode.{MotionMode}
use Rattle.modal_state.specs.declared.MotionMode.TheVariants.{G0, G1, G80}
use Rattle.modal_state.specs.declared.Parser.{Parser}
use Rattle.settings.specs.declared.Settings.{Settings}
use Rattle.line_words.specs.Letters.{I, J, K, L, P, R}
use Rattle.line_words.specs.Codes.{has_g}
use Rattle.line_words.specs.Given.{stands, whole_given, exceeds, line_number_out_of_range, names_axis}
use Rattle.line_words.specs.LineModes.{motion_of, feed_of}
use Rattle.line_words.specs.Targets.{moves, targets}
use Rattle.travel_limits.specs.Reach.{is_far, leave_travel}
use Rattle.gcode_check.specs.NewOffsets.{has_l, new_offset}

abbrev pub is_g80 : MotionMode → Bool
is_g80 G0 = false
is_g80 G1 = false
is_g80 G80 = true

abbrev pub is_g1 : MotionMode → Bool
is_g1 G0 = false
is_g1 G1 = true
is_g1 G80 = false

abbrev pub dwell_without_time : List Word → Bool
dwell_without_time ws = has_g (code 4 0) ws && not (stands P ws)

abbrev pub system_offset_without_axis : List Word → Bool
system_offset_without_axis ws = has_g (code 10 0) ws && not (names_axis ws)

-- neither P nor L
abbrev pub system_offset_without_system : List Word → Bool
system_offset_without_system ws = has_g (code 10 0) ws && not (stands P ws) && not (stands L ws)

-- P over 6
abbrev pub system_out_of_range : List Word → Bool
system_out_of_range ws = has_g (code 10 0) ws && exceeds 6 (whole_given P ws)

-- neither L2 without R nor L20
abbrev pub system_offset_unsupported : List Word → Bool
system_offset_unsupported ws = has_g (code 10 0) ws && not (has_l 20 ws) && (not (has_l 2 ws) || stands R ws)

-- G92
abbrev pub shift_without_axis : List Word → Bool
shift_without_axis ws = has_g (code 92 0) ws && not (names_axis ws)

-- G53
abbrev pub machine_coordinates_without_motion : Parser → List Word → Bool
machine_coordinates_without_motion p ws = has_g (code 53 0) ws && is_g80 (motion_of p ws)

-- in G80
abbrev pub axis_words_without_motion : Parser → List Word → Bool
axis_words_without_motion p ws = is_g80 (motion_of p ws) && names_axis ws

-- in G1
abbrev pub motion_without_feed : Parser → List Word → Bool
motion_without_feed p ws = moves ws && is_g1 (motion_of p ws) && (nat_abs (feed_of p ws) == 0)

-- words that no command of the line takes
abbrev pub unused_words : List Word → Bool
unused_words ws =
    (stands P ws && not (has_g (code 4 0) ws || has_g (code 10 0) ws))
    || (stands L ws && not (has_g (code 10 0) ws))
    || stands I ws || stands J ws || stands K ws || stands R ws

abbrev pub sets_far : Option Nm3 → Bool
sets_far None = false
sets_far (Some offset) = is_far offset

-- a point that the line moves to, or an offset that it sets, is far
abbrev pub target_out_of_range : Parser → List Word → Bool
target_out_of_range p ws = list_any is_far (targets p ws) || sets_far (new_offset p ws)

-- the errors of G4, G10, G92 and G53, in their order
abbrev pub command_rows : Parser → List Word → List (ℕ × Bool)
command_rows p ws =
    (28, dwell_without_time ws)
    ∷ (26, system_offset_without_axis ws)
    ∷ (28, system_offset_without_system ws)
    ∷ (29, system_out_of_range ws)
    ∷ (20, system_offset_unsupported ws)
    ∷ (26, shift_without_axis ws)
    ∷ (30, machine_coordinates_without_motion p ws)
    ∷ []

-- the errors of the axis words and of the other values, in their order
abbrev pub value_rows : Parser → List Word → List (ℕ × Bool)
value_rows p ws =
    (31, axis_words_without_motion p ws)
    ∷ (22, motion_without_feed p ws)
    ∷ (36, unused_words ws)
    ∷ (33, target_out_of_range p ws)
    ∷ []

-- the errors of a line, in their order
abbrev pub line_rows : Parser → List Word → List (ℕ × Bool)
line_rows p ws = (27, line_number_out_of_range ws) ∷ command_rows p ws ++ value_rows p ws

unfoldable pub line_refusal : Parser → List Word → Option Code
line_refusal p ws = first_refusal (line_rows p ws)

abbrev pub leaves_travel : Parser → Settings → List Word → Bool
leaves_travel p s ws = leave_travel s (targets p ws)
