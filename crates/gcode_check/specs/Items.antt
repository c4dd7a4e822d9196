-- What an accepted line gives to do.
use Rattle.std.specs.Prelude.{ℕ, ◌/◌, ◌<◌, Bool, true, false, not, ◌&&◌, ◌||◌, ◌==◌, if◌then◌else◌, List, [], ◌∷◌, ◌++◌, nat_abs, unwrap_or, option_map}
use Rattle.units.specs.declared.Steps3.{Steps3}
use Rattle.units.specs.declared.Rate.{Rate}
use Rattle.units.specs.declared.Rate.TheVariants.{Rapid, Feed}
use Rattle.units.specs.declared.Move.{Move as Way}
use Rattle.units.specs.Lengths.{IsMove}
use Rattle.units.specs.Limits.{IsRate}
use Rattle.gcode_words.specs.declared.Word.{Word}
use Rattle.code_table.specs.Tables.{code}
use Rattle.modal_state.specs.declared.SpindleMode.{SpindleMode}
use Rattle.modal_state.specs.declared.SpindleMode.TheVariants.{Off, Cw, Ccw}
use Rattle.modal_state.specs.declared.Parser.{Parser}
use Rattle.line_words.specs.Letters.{P}
use Rattle.line_words.specs.Codes.{has_g, has_m}
use Rattle.line_words.specs.Given.{given}
use Rattle.line_words.specs.LineModes.{motion_of, spindle_of, flood_of, feed_of, rpm_of}
use Rattle.line_words.specs.Targets.{moves}
use Rattle.gcode_check.specs.Conditions.{is_g1}
use Rattle.gcode_check.specs.Effects.{ends_program}
use Rattle.gcode_check.specs.declared.Item.{Item}
use Rattle.gcode_check.specs.declared.Item.TheVariants.{Spindle, Coolant, Dwell, Move, Pause, ProgramEnd}

abbrev pub is_same_spindle : SpindleMode → SpindleMode → Bool
is_same_spindle Off Off = true
is_same_spindle Off Cw = false
is_same_spindle Off Ccw = false
is_same_spindle Cw Off = false
is_same_spindle Cw Cw = true
is_same_spindle Cw Ccw = false
is_same_spindle Ccw Off = false
is_same_spindle Ccw Cw = false
is_same_spindle Ccw Ccw = true

abbrev pub is_on : SpindleMode → Bool
is_on Off = false
is_on Cw = true
is_on Ccw = true

-- the mode differs, or the speed does while the spindle is on
abbrev pub spindle_changes : Parser → List Word → Bool
spindle_changes p ws =
    not (is_same_spindle (spindle_of p ws) p.modal.spindle) || (is_on (spindle_of p ws) && not (rpm_of p ws == p.rpm))

abbrev pub coolant_changes : Parser → List Word → Bool
coolant_changes p ws = if flood_of p ws then not p.modal.flood else p.modal.flood

-- the speed, 0 with M5
abbrev pub speed_of : Parser → List Word → ℕ
speed_of p ws = if is_on (spindle_of p ws) then rpm_of p ws else 0

-- an item where a condition holds
abbrev pub item_if : Bool → Item → List Item
item_if holds item = if holds then item ∷ [] else []

abbrev pub spindle_items : Parser → List Word → List Item
spindle_items p ws = item_if (spindle_changes p ws) (Spindle (spindle_of p ws) (speed_of p ws))

abbrev pub coolant_items : Parser → List Word → List Item
coolant_items p ws = item_if (coolant_changes p ws) (Coolant (flood_of p ws))

-- the milliseconds of P
abbrev pub dwell_time : List Word → ℕ
dwell_time ws = unwrap_or (option_map (λ v. nat_abs v.micro / 1000) (given P ws)) 0

abbrev pub dwell_items : List Word → List Item
dwell_items ws = item_if (has_g (code 4 0) ws) (Dwell (dwell_time ws))

-- a motion in G1 goes at the feed, and all else is rapid
abbrev pub rate_of : Parser → List Word → Rate
rate_of p ws = if moves ws && is_g1 (motion_of p ws) then Feed (feed_of p ws) else Rapid

-- moves from a place through these places
abbrev pub moves_through : Steps3 → List Steps3 → Rate → List Item
moves_through from [] rate = []
moves_through from (to ∷ places) rate = Move (record { from = from; to = to }) rate ∷ moves_through to places rate

abbrev pub move_items : Parser → List Word → List Steps3 → List Item
move_items p ws places = moves_through p.pos_steps places (rate_of p ws)

-- M0, and M2 or M30
abbrev pub flow_items : List Word → List Item
flow_items ws = item_if (has_m (code 0 0) ws) Pause ++ item_if (ends_program ws) ProgramEnd

-- the items of a line that moves through these places, in their order
unfoldable pub items_of : Parser → List Word → List Steps3 → List Item
items_of p ws places = spindle_items p ws ++ coolant_items p ws ++ dwell_items ws ++ move_items p ws places ++ flow_items ws

abbrev pub is_move : Item → Bool
is_move (Spindle mode speed) = false
is_move (Coolant on) = false
is_move (Dwell ms) = false
is_move (Move way rate) = true
is_move Pause = false
is_move ProgramEnd = false

-- a line settles where it has items and the last is no move
abbrev pub settling : List Item → Bool
settling [] = false
settling (item ∷ []) = not (is_move item)
settling (item ∷ next ∷ items) = settling (next ∷ items)

-- a move between places in reach, at a rate in range
pub record IsMoveAt (way : Way) (rate : Rate) : Type 0 where
  pub way_is : IsMove way
  pub rate_is : IsRate rate

-- an item in range
abbrev pub IsItem : Item → Type 0
IsItem (Spindle mode speed) = speed < 1000000000
IsItem (Coolant on) = Unit {0}
IsItem (Dwell ms) = Unit {0}
IsItem (Move way rate) = IsMoveAt way rate
IsItem Pause = Unit {0}
IsItem ProgramEnd = Unit {0}
