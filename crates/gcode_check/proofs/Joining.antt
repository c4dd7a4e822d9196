-- The moves of a line join.
use Rattle.std.proofs.Common.{◌≡◌, Bool, true, false, List, [], ◌∷◌, ◌++◌, refl}
use Rattle.units.specs.declared.Steps3.{Steps3}
use Rattle.units.specs.declared.Rate.{Rate}
use Rattle.gcode_words.specs.declared.Word.{Word}
use Rattle.code_table.specs.Tables.{code}
use Rattle.modal_state.specs.declared.Parser.{Parser}
use Rattle.line_words.specs.Codes.{has_g, has_m}
use Rattle.line_words.specs.LineModes.{spindle_of, flood_of}
use Rattle.gcode_check.specs.Effects.{last_of, ends_program}
use Rattle.gcode_check.specs.Items.{is_move, items_of, item_if, moves_through, rate_of, spindle_items, coolant_items, dwell_items, move_items, flow_items, spindle_changes, coolant_changes, speed_of, dwell_time}
use Rattle.gcode_check.specs.Laws.{Join}
use Rattle.gcode_check.specs.declared.Item.{Item}
use Rattle.gcode_check.specs.declared.Item.TheVariants.{Spindle, Coolant, Dwell, Move, Pause, ProgramEnd}

start : (items : List Item) (a b c : Steps3) → a ≡ b → Join b items c → Join a items c
start items a b c e h = rw e h

pub together : (xs ys : List Item) (a b c : Steps3) → Join a xs b → Join b ys c → Join a (xs ++ ys) c
together [] ys a b c h k = start ys a b c h k
together (Spindle mode speed ∷ xs) ys a b c h k = together xs ys a b c h k
together (Coolant on ∷ xs) ys a b c h k = together xs ys a b c h k
together (Dwell ms ∷ xs) ys a b c h k = together xs ys a b c h k
together (Move way rate ∷ xs) ys a b c h k = (h.0, together xs ys way.to b c h.1 k)
together (Pause ∷ xs) ys a b c h k = together xs ys a b c h k
together (ProgramEnd ∷ xs) ys a b c h k = together xs ys a b c h k

one : (item : Item) (at : Steps3) → is_move item ≡ false → Join at (item ∷ []) at
one (Spindle mode speed) at e = refl
one (Coolant on) at e = refl
one (Dwell ms) at e = refl
one (Move way rate) at e = absurd cc
one Pause at e = refl
one ProgramEnd at e = refl

stays : (holds : Bool) (item : Item) (at : Steps3) → is_move item ≡ false → Join at (item_if holds item) at
stays true item at e = one item at e
stays false item at e = refl

through : (from : Steps3) (places : List Steps3) (rate : Rate) → Join from (moves_through from places rate) (last_of from places)
through from [] rate = refl
through from (to ∷ places) rate = (refl, through to places rate)

pub line : (p : Parser) (ws : List Word) (places : List Steps3) → Join p.pos_steps (items_of p ws places) (last_of p.pos_steps places)
unfolding items_of
line p ws places =
    let here = p.pos_steps in
    let there = last_of p.pos_steps places in
    let spindle = spindle_items p ws in
    let coolant = coolant_items p ws in
    let dwell = dwell_items ws in
    let moves = move_items p ws places in
    together (spindle ++ coolant ++ dwell ++ moves) (flow_items ws) here there there
    (together (spindle ++ coolant ++ dwell) moves here here there
    (together (spindle ++ coolant) dwell here here here
    (together spindle coolant here here here (stays (spindle_changes p ws) (Spindle (spindle_of p ws) (speed_of p ws)) here refl)
    (stays (coolant_changes p ws) (Coolant (flood_of p ws)) here refl))
    (stays (has_g (code 4 0) ws) (Dwell (dwell_time ws)) here refl))
    (through here places (rate_of p ws)))
    (together (item_if (has_m (code 0 0) ws) Pause) (item_if (ends_program ws) ProgramEnd) there there there (stays (has_m (code 0 0) ws) Pause there refl)
    (stays (ends_program ws) ProgramEnd there refl))
