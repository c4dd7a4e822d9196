-- The moves of a line, and where they end.
use Rattle.std.proofs.Common.{◌≡◌, Bool, true, false, cond, ◌||◌, List, [], ◌∷◌, ◌++◌, map, refl, sym, ◌∙◌, ap}
use Rattle.std.proofs.lemmas.List.Folds.{list_any-append}
use Rattle.units.specs.declared.Nm3.{Nm3}
use Rattle.units.specs.declared.Steps3.{Steps3}
use Rattle.units.specs.declared.Per3.{Per3}
use Rattle.units.specs.declared.Rate.{Rate}
use Rattle.gcode_words.specs.declared.Word.{Word}
use Rattle.code_table.specs.Tables.{code}
use Rattle.modal_state.specs.declared.Parser.{Parser}
use Rattle.modal_state.specs.Modes.{program_ended}
use Rattle.settings.specs.declared.Settings.{Settings}
use Rattle.line_words.specs.Codes.{has_g, has_m}
use Rattle.line_words.specs.LineModes.{spindle_of, flood_of}
use Rattle.line_words.specs.Targets.{targets}
use Rattle.travel_limits.specs.Reach.{steps3}
use Rattle.gcode_check.specs.Effects.{stops, last_of, ends_program, parser_moved, parser_after}
use Rattle.gcode_check.specs.Items.{is_move, items_of, item_if, moves_through, rate_of, spindle_items, coolant_items, dwell_items, move_items, flow_items, spindle_changes, coolant_changes, speed_of, dwell_time}
use Rattle.gcode_check.specs.Laws.{moves_axes}
use Rattle.gcode_check.specs.declared.Item.{Item}
use Rattle.gcode_check.specs.declared.Item.TheVariants.{Spindle, Coolant, Dwell, Pause, ProgramEnd}

or_false_right : (b : Bool) → (b || false) ≡ b
or_false_right true = refl
or_false_right false = refl

append : (xs ys : List Item) → moves_axes ys ≡ false → moves_axes (xs ++ ys) ≡ moves_axes xs
append xs ys none = list_any-append is_move xs ys ∙ ap (λ b. moves_axes xs || b) none ∙ or_false_right (moves_axes xs)

behind : (xs ys : List Item) → moves_axes xs ≡ false → moves_axes (xs ++ ys) ≡ moves_axes ys
behind xs ys none = list_any-append is_move xs ys ∙ ap (λ b. b || moves_axes ys) none

if_no_move : (holds : Bool) (item : Item) → is_move item ≡ false → moves_axes (item_if holds item) ≡ false
if_no_move true item e = or_false_right (is_move item) ∙ e
if_no_move false item e = refl

-- only the moves among a line's items move axes
pub moves_are : (p : Parser) (ws : List Word) (places : List Steps3) → moves_axes (items_of p ws places) ≡ moves_axes (move_items p ws places)
unfolding items_of
moves_are p ws places =
    let spindle = spindle_items p ws in
    let coolant = coolant_items p ws in
    let dwell = dwell_items ws in
    let moves = move_items p ws places in
    append (spindle ++ coolant ++ dwell ++ moves) (flow_items ws) (flow_none ws)
    ∙ behind (spindle ++ coolant ++ dwell) moves (append (spindle ++ coolant) dwell (if_no_move (has_g (code 4 0) ws) (Dwell (dwell_time ws)) refl)
    ∙ append spindle coolant (if_no_move (coolant_changes p ws) (Coolant (flood_of p ws)) refl)
    ∙ if_no_move (spindle_changes p ws) (Spindle (spindle_of p ws) (speed_of p ws)) refl)
  where
    flow_none : (ws : List Word) → moves_axes (flow_items ws) ≡ false
    flow_none ws = append (item_if (has_m (code 0 0) ws) Pause) (item_if (ends_program ws) ProgramEnd) (if_no_move (ends_program ws) ProgramEnd refl)
        ∙ if_no_move (has_m (code 0 0) ws) Pause refl

-- the position behind a line
pub after_nm : (p : Parser) (ws : List Word) (points : List Nm3) (places : List Steps3) → (parser_after p ws points places).pos_nm ≡ last_of p.pos_nm points
unfolding parser_after parser_moved
after_nm p ws points places = either (ends_program ws)
  where
    either : (b : Bool) → (cond b (program_ended (parser_moved p ws points places)) (parser_moved p ws points places)).pos_nm ≡ last_of p.pos_nm points
    either true = refl
    either false = refl

pub after_steps : (p : Parser) (ws : List Word) (points : List Nm3) (places : List Steps3) → (parser_after p ws points places).pos_steps ≡ last_of p.pos_steps places
unfolding parser_after parser_moved
after_steps p ws points places = either (ends_program ws)
  where
    either : (b : Bool) → (cond b (program_ended (parser_moved p ws points places)) (parser_moved p ws points places)).pos_steps ≡ last_of p.pos_steps places
    either true = refl
    either false = refl

-- where a line goes nowhere
pub stays : (p : Parser) (s : Settings) (ws : List Word) → targets p ws ≡ [] →
    (moves_axes (items_of p ws (stops p s ws)) ≡ false)
    × ((parser_after p ws (targets p ws) (stops p s ws)).pos_nm ≡ p.pos_nm)
    × ((parser_after p ws (targets p ws) (stops p s ws)).pos_steps ≡ p.pos_steps)
stays p s ws none =
    let stopped : stops p s ws ≡ [] = ap (map (steps3 s.limits.per_mm)) none in (
      moves_are p ws (stops p s ws) ∙ ap (λ places. moves_axes (move_items p ws places)) stopped,
      after_nm p ws (targets p ws) (stops p s ws) ∙ ap (last_of p.pos_nm) none,
      after_steps p ws (targets p ws) (stops p s ws) ∙ ap (last_of p.pos_steps) stopped,
    )

last_mapped : (per_mm : Per3) (points : List Nm3) (at : Nm3) → last_of (steps3 per_mm at) (map (steps3 per_mm) points) ≡ steps3 per_mm (last_of at points)
last_mapped per_mm [] at = refl
last_mapped per_mm (point ∷ points) at = last_mapped per_mm points point

ends : (per_mm : Per3) (points : List Nm3) (from : Steps3) (here : Steps3) (there : Nm3) (rate : Rate)
    → moves_axes (moves_through from (map (steps3 per_mm) points) rate) ≡ true → last_of here (map (steps3 per_mm) points) ≡ steps3 per_mm (last_of there points)
ends per_mm [] from here there rate e = absurd cc
ends per_mm (point ∷ points) from here there rate e = last_mapped per_mm points point

-- where it goes somewhere
pub ends_there : (p : Parser) (s : Settings) (ws : List Word) → moves_axes (items_of p ws (stops p s ws)) ≡ true →
    (parser_after p ws (targets p ws) (stops p s ws)).pos_steps ≡ steps3 s.limits.per_mm (parser_after p ws (targets p ws) (stops p s ws)).pos_nm
ends_there p s ws e =
    after_steps p ws (targets p ws) (stops p s ws)
    ∙ ends s.limits.per_mm (targets p ws) p.pos_steps p.pos_steps p.pos_nm (rate_of p ws) (sym (moves_are p ws (stops p s ws)) ∙ e)
    ∙ ap (steps3 s.limits.per_mm) (sym (after_nm p ws (targets p ws) (stops p s ws)))
