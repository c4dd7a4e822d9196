-- The moves of a line lead between places, and the state behind it stands at one.
use Rattle.std.proofs.Common.{◌≡◌, ℕ, ◌*◌, ◌/◌, ◌≤◌, inl, inr, List, [], ◌∷◌, ◌++◌, length, map, nat_eq, nat_lt, nat_le, nat_abs, int_lt, pos, is_some, true, false, Bool, not, ◌&&◌, ◌==◌, get_or, if◌then◌else◌, sym, refl, ap, subst, arith, lit<, Ok, Err, Some, None, IfNone, ℤ}
use Rattle.std.specs.List.{AllByRecursion}
use Rattle.std.specs.Option.{option_map_or}
use Rattle.std.specs.declared.option.Option.{Option}
use Rattle.std.specs.declared.result.Result.{Result}
use Rattle.std.proofs.Math.Nat.{mul-le-mul}
use Rattle.std.proofs.lemmas.Bool.Decides.{nat_tests}
use Rattle.std.proofs.lemmas.Grind.{flat_map-append}
use Rattle.std.proofs.lemmas.List.Elements.{recursion_from_All}
use Rattle.units.specs.declared.Decimal.{Decimal}
use Rattle.units.specs.declared.Steps3.{Steps3}
use Rattle.units.specs.declared.Nm3.{Nm3}
use Rattle.units.specs.declared.Per3.{Per3}
use Rattle.units.specs.declared.Rate.{Rate}
use Rattle.units.specs.Lengths.{IsInReach, IsScale, IsCoordinate, IsPlace, IsMove, steps_of}
use Rattle.units.specs.Limits.{OnEachAxis}
use Rattle.units.proofs.Nearest.{quotient_small}
use Rattle.code_table.specs.Tables.{code}
use Rattle.code_table.specs.Refusals.{or_else}
use Rattle.code_table.specs.declared.Code.{Code}
use Rattle.gcode_words.specs.declared.Word.{Word}
use Rattle.gcode_words.specs.declared.WordFault.{WordFault}
use Rattle.gcode_words.specs.Words.{words_of}
use Rattle.gcode_check.specs.Conditions.{line_refusal}
use Rattle.gcode_check.specs.Effects.{stops, last_of, ends_program}
use Rattle.gcode_check.specs.Items.{items_of, item_if, moves_through, rate_of, spindle_items, coolant_items, dwell_items, move_items, flow_items, spindle_changes, coolant_changes, speed_of, dwell_time}
use Rattle.gcode_check.specs.Verdicts.{verdict}
use Rattle.gcode_check.specs.declared.Accept.{Accept as Accepted}
use Rattle.gcode_check.specs.declared.Item.{Item}
use Rattle.gcode_check.specs.declared.Item.TheVariants.{Spindle, Coolant, Dwell, Move, Pause, ProgramEnd}
use Rattle.gcode_check.specs.declared.Verdict.{Verdict}
use Rattle.gcode_check.specs.declared.Verdict.TheVariants.{Accept, Refuse, Limit}
use Rattle.gcode_check.proofs.Causes.{is_accepted}
use Rattle.gcode_check.proofs.Moves.{after_steps}
use Rattle.gcode_check.proofs.Nearness.{targets_near}
use Rattle.jog.specs.declared.JogMove.{JogMove}
use Rattle.jog.specs.Jogs.{jog_of, jog_error}
use Rattle.jog.proofs.Causes.{is_accepted as jog_is, passes, stays_near}
use Rattle.line_words.specs.Codes.{has_g, has_m}
use Rattle.line_words.specs.LineModes.{spindle_of, flood_of}
use Rattle.line_words.specs.Targets.{target, targets}
use Rattle.line_words.specs.WordRefusals.{words_refusal}
use Rattle.modal_state.specs.declared.Parser.{Parser}
use Rattle.modal_state.specs.declared.SpindleMode.{SpindleMode}
use Rattle.modal_state.specs.declared.SpindleMode.TheVariants.{Off, Cw, Ccw}
use Rattle.settings.specs.declared.Settings.{Settings}
use Rattle.settings.specs.Numbers.{values, row_of, takes, value_set, with_value, set_refusal}
use Rattle.code_table.specs.Tables.{Row}
use Rattle.line_words.proofs.Tests.{row_passes}
use Rattle.status_report.specs.declared.Reply.{Reply}
use Rattle.status_report.specs.declared.Reply.TheVariants.{Ok as Done}
use Rattle.step_line.specs.Asking.{Asked}
use Rattle.step_line.specs.Asking.Asked.{a_move, a_mark, a_rest}
use Rattle.step_line.specs.Counting.{events_of}
use Rattle.step_line.specs.declared.planned_move.PlannedMove.{PlannedMove}
use Rattle.system_lines.specs.Commands.{kind_of, command_of, jog_words, is_jog}
use Rattle.system_lines.specs.declared.Command.{Command}
use Rattle.system_lines.specs.declared.Command.TheVariants.{ListSettings, ListModes, ListOffsets, Unlock, Set}
use Rattle.travel_limits.specs.Reach.{IsNear, steps3}
use Rattle.run_rules.specs.declared.State.{State}
use Rattle.run_rules.specs.States.{IsOpening}
use Rattle.run_rules.specs.Asks.{item_work, work_of, move_asked, planned, spindle_after, flood_after}
use Rattle.run_rules.specs.Outcomes.{Before, Becomes, ByKept, ByDollar, ByCode, ByJog, ByJogMove, ByCommand, BySetting, ByWords, ByVerdict, executed, jogging, told, refused, fault_number, most_kept}
use Rattle.run_rules.specs.Work.{Task, Outcome, asks, asked_by_task, telling}
use Rattle.run_rules.specs.Work.Task.{tell}
use Rattle.run_rules.proofs.Each.{holds_by_cause, by_either}
use Rattle.run_rules.proofs.Jogging.{asking_asks, jog_asks}
use Rattle.run_rules.proofs.Locking.{locked_still}
use Rattle.run_texts.proofs.Tasks.{holds_of_locked}
use Rattle.run_texts.specs.Points.{Point, BecomesLocked, BecomesAt}

-- ---- points in steps

in_steps : (nm : ℤ) (per_mm : ℕ) → IsInReach nm → IsScale per_mm → IsCoordinate (steps_of nm per_mm)
in_steps nm per_mm near scale =
    let le : nat_abs nm * per_mm ≤ 10000000000 * 10000000 = mul-le-mul near scale.1 in
    quotient_small nm per_mm 1000000000 100000000 (lit< tt) le

is_place : (per_mm : Per3) (at : Nm3) → OnEachAxis IsScale per_mm → IsNear at → IsPlace (steps3 per_mm at)
is_place per_mm at scales near = record { x = in_steps at.x per_mm.x near.x scales.x; y = in_steps at.y per_mm.y near.y scales.y; z = in_steps at.z per_mm.z near.z scales.z }

are_places : (per_mm : Per3) (points : List Nm3) → OnEachAxis IsScale per_mm → AllByRecursion IsNear points → AllByRecursion IsPlace (map (steps3 per_mm) points)
are_places per_mm [] scales near = tt
are_places per_mm (at ∷ points) scales near = (is_place per_mm at scales near.0, are_places per_mm points scales near.1)

last_place : (at : Steps3) (places : List Steps3) → IsPlace at → AllByRecursion IsPlace places → IsPlace (last_of at places)
last_place at [] here all = here
last_place at (place ∷ places) here all = last_place place places all.0 all.1

-- ---- settings

some_if_none : {P : Type 0} (r : Option Code) → r ≡ None → IfNone r P → P
some_if_none None e is = is
some_if_none (Some code) e is = absurd cc

in_scale : (k : ℕ) → not (nat_le 1000 k && nat_le k 10000000) ≡ false → IsScale k
in_scale k taken = (grind (arith, nat_tests), grind (arith, nat_tests))

takes_it : (n : ℕ) (v : Decimal) → set_refusal n v ≡ None → not (option_map_or (λ row. takes row v) (row_of n) false) ≡ false
takes_it n v free =
    row_passes ((4, int_lt v.micro (pos 0)) ∷ (3, not (is_some (row_of n))) ∷ (3, not (option_map_or (λ row. takes row v) (row_of n) false)) ∷ []) 2 (0, false) free (omega arith)

x_scale : (v : Decimal) → set_refusal 100 v ≡ None → IsScale (value_set 100 v)
x_scale v free = in_scale (nat_abs v.micro / 1000) (takes_it 100 v free)

y_scale : (v : Decimal) → set_refusal 101 v ≡ None → IsScale (value_set 101 v)
y_scale v free = in_scale (nat_abs v.micro / 1000) (takes_it 101 v free)

z_scale : (v : Decimal) → set_refusal 102 v ≡ None → IsScale (value_set 102 v)
z_scale v free = in_scale (nat_abs v.micro / 1000) (takes_it 102 v free)

one_scale : (n m value was : ℕ) (t : Bool) → (n == m) ≡ t → (n ≡ m → IsScale value) → IsScale was → IsScale (if n == m then value else was)
one_scale n m value was true e set old = rw e (set (grind (arith, nat_tests)))
one_scale n m value was false e set old = rw e old

-- which value a list of settings has at a place
abbrev value_in : ℕ → List Row → ℕ
value_in i rows = (get_or rows i (0, 0)).1

-- the scales after a setting took a value
scales_set : (old new : Settings) (n : ℕ) (v : Decimal) → set_refusal n v ≡ None → values new ≡ with_value n (value_set n v) old → OnEachAxis IsScale old.limits.per_mm → OnEachAxis IsScale new.limits.per_mm
scales_set old new n v free is scales =
    let x : new.limits.per_mm.x ≡ (if n == 100 then value_set n v else old.limits.per_mm.x) = ap (value_in 3) is in
    let y : new.limits.per_mm.y ≡ (if n == 101 then value_set n v else old.limits.per_mm.y) = ap (value_in 4) is in
    let z : new.limits.per_mm.z ≡ (if n == 102 then value_set n v else old.limits.per_mm.z) = ap (value_in 5) is in
    record {
      x = subst IsScale (sym x) (one_scale n 100 _ _ (n == 100) refl (by_number 100 (x_scale v)) scales.x);
      y = subst IsScale (sym y) (one_scale n 101 _ _ (n == 101) refl (by_number 101 (y_scale v)) scales.y);
      z = subst IsScale (sym z) (one_scale n 102 _ _ (n == 102) refl (by_number 102 (z_scale v)) scales.z);
    } where
      by_number : (m : ℕ) → (set_refusal m v ≡ None → IsScale (value_set m v)) → n ≡ m → IsScale (value_set n v)
      by_number m set same = subst (λ (k : ℕ). IsScale (value_set k v)) (sym same) (set (subst (λ (k : ℕ). set_refusal k v ≡ None) same free))

-- ---- items

pub all_on : {A : Type 0} (P : A → Type 0) (xs ys : List A) → AllByRecursion P xs → AllByRecursion P ys → AllByRecursion P (xs ++ ys)
all_on P [] ys a b = b
all_on P (x ∷ xs) ys a b = (a.0, all_on P xs ys a.1 b)

-- a move leads between places
abbrev ItemInReach : Item → Type 0
ItemInReach (Spindle mode speed) = Unit {0}
ItemInReach (Coolant on) = Unit {0}
ItemInReach (Dwell ms) = Unit {0}
ItemInReach (Move way rate) = IsMove way
ItemInReach Pause = Unit {0}
ItemInReach ProgramEnd = Unit {0}

abbrev ItemsInReach : List Item → Type 0
ItemsInReach items = AllByRecursion ItemInReach items

if_in_reach : (holds : Bool) (item : Item) → ItemInReach item → ItemsInReach (item_if holds item)
if_in_reach true item is = (is, tt)
if_in_reach false item is = tt

through : (from : Steps3) (places : List Steps3) (rate : Rate) → IsPlace from → AllByRecursion IsPlace places → ItemsInReach (moves_through from places rate)
through from [] rate here all = tt
through from (to ∷ places) rate here all = (record { from = here; to = all.0 }, through to places rate all.0 all.1)

items_in_reach : (p : Parser) (ws : List Word) (places : List Steps3) → IsPlace p.pos_steps → AllByRecursion IsPlace places → ItemsInReach (items_of p ws places)
unfolding items_of
items_in_reach p ws places here all =
    let spindle = spindle_items p ws in
    let coolant = coolant_items p ws in
    let dwell = dwell_items ws in
    let moves = move_items p ws places in
    all_on ItemInReach (spindle ++ coolant ++ dwell ++ moves) (flow_items ws)
    (all_on ItemInReach (spindle ++ coolant ++ dwell) moves
    (all_on ItemInReach (spindle ++ coolant) dwell
    (all_on ItemInReach spindle coolant (if_in_reach (spindle_changes p ws) (Spindle (spindle_of p ws) (speed_of p ws)) tt)
    (if_in_reach (coolant_changes p ws) (Coolant (flood_of p ws)) tt))
    (if_in_reach (has_g (code 4 0) ws) (Dwell (dwell_time ws)) tt))
    (through p.pos_steps places (rate_of p ws) here all))
    (all_on ItemInReach (item_if (has_m (code 0 0) ws) Pause) (item_if (ends_program ws) ProgramEnd) (if_in_reach (has_m (code 0 0) ws) Pause tt)
    (if_in_reach (ends_program ws) ProgramEnd tt))

-- ---- what is asked

-- a move that is asked for leads between places
abbrev pub IsInReachAsked : Asked → Type 0
IsInReachAsked (a_move m) = IsMove m.mv
IsInReachAsked (a_mark m) = Unit {0}
IsInReachAsked a_rest = Unit {0}

abbrev pub AllInReach : List Asked → Type 0
AllInReach asked = AllByRecursion IsInReachAsked asked

move_reaches : (m : PlannedMove) (t : Bool) → (events_of m.mv == 0) ≡ t → IsMove m.mv → AllInReach (move_asked m)
move_reaches m true e is = rw e tt
move_reaches m false e is = rw e (is, tt)

item_reaches : (n : ℕ) (s : Settings) (spindle : SpindleMode) (flood : Bool) (item : Item) → ItemInReach item → AllInReach (asks (item_work n s spindle flood item))
item_reaches n s spindle flood (Spindle mode speed) is = (tt, (tt, (tt, tt)))
item_reaches n s spindle flood (Coolant on) is = (tt, (tt, (tt, tt)))
item_reaches n s spindle flood (Dwell ms) is = (tt, (tt, (tt, tt)))
item_reaches n s spindle flood (Move mv rate) is =
    let m = planned n s mv rate in
    subst AllInReach (sym (asking_asks (move_asked m))) (move_reaches m (events_of mv == 0) refl is)
item_reaches n s spindle flood Pause is = (tt, (tt, tt))
item_reaches n s Off true ProgramEnd is = (tt, (tt, (tt, tt)))
item_reaches n s Off false ProgramEnd is = (tt, (tt, tt))
item_reaches n s Cw true ProgramEnd is = (tt, (tt, (tt, (tt, tt))))
item_reaches n s Cw false ProgramEnd is = (tt, (tt, (tt, tt)))
item_reaches n s Ccw true ProgramEnd is = (tt, (tt, (tt, (tt, tt))))
item_reaches n s Ccw false ProgramEnd is = (tt, (tt, (tt, tt)))

asks_both : (xs ys : List Task) → AllInReach (asks xs) → AllInReach (asks ys) → AllInReach (asks (xs ++ ys))
asks_both xs ys a b = subst AllInReach (sym (flat_map-append asked_by_task xs ys)) (all_on IsInReachAsked (asks xs) (asks ys) a b)

work_reaches : (n : ℕ) (s : Settings) (spindle : SpindleMode) (flood : Bool) (items : List Item) → ItemsInReach items → AllInReach (asks (work_of n s spindle flood items))
work_reaches n s spindle flood [] all = tt
work_reaches n s spindle flood (item ∷ items) all =
    asks_both (item_work n s spindle flood item) (work_of n s (spindle_after spindle item) (flood_after flood item) items)
    (item_reaches n s spindle flood item all.0) (work_reaches n s (spindle_after spindle item) (flood_after flood item) items all.1)

-- ---- lines

-- a state to move from: it stands at a place, and its scales are in range
pub record IsSteady (s : State) : Type 0 where
  pub place : IsPlace s.parser.pos_steps
  pub scales : OnEachAxis IsScale s.settings.limits.per_mm

-- a line leaves the position at a place, and its moves lead between places
pub record Reaches (o : Outcome) : Type 0 where
  pub place : IsPlace o.next.parser.pos_steps
  pub asked : AllInReach (asks o.work)

silent : (rs : List Reply) → AllInReach (asks (telling rs))
silent [] = tt
silent (r ∷ rs) = silent rs

told_reaches : (b : Before) (next : State) (body : List Reply) → IsSteady b.state → next.parser ≡ b.state.parser → Reaches (told next body)
told_reaches b next body steady same = record { place = subst (λ (p : Parser). IsPlace p.pos_steps) (sym same) steady.place; asked = silent (body ++ Done ∷ []) }

second_none : (first second : Option Code) → or_else first second ≡ None → second ≡ None
second_none (Some code) second e = absurd cc
second_none None second e = e

executed_reaches : (b : Before) (ws : List Word) (a : Accepted) → IsSteady b.state → verdict b.state.parser b.state.settings ws ≡ Accept a → Reaches (executed b a)
executed_reaches b ws a steady e =
    let p = b.state.parser in
    let s = b.state.settings in
    let is = is_accepted p s ws a e in
    let free = second_none (words_refusal ws) (line_refusal p ws) is.0 in
    let near = some_if_none (line_refusal p ws) free (targets_near p ws (line_refusal p ws) refl) in
    let places : AllByRecursion IsPlace (stops p s ws) = are_places s.limits.per_mm (targets p ws) steady.scales (recursion_from_All IsNear (targets p ws) near) in
    let items : ItemsInReach a.items.items = subst (λ (x : Accepted). ItemsInReach x.items.items) is.2 (items_in_reach p ws (stops p s ws) steady.place places) in
    let work = work_of b.number s p.modal.spindle p.modal.flood a.items.items in
    record {
      place = subst (λ (x : Accepted). IsPlace x.next.pos_steps) is.2
          (subst IsPlace (sym (after_steps p ws (targets p ws) (stops p s ws))) (last_place p.pos_steps (stops p s ws) steady.place places));
      asked = asks_both work (tell Done ∷ []) (work_reaches b.number s p.modal.spindle p.modal.flood a.items.items items) tt;
    }

jogging_reaches : (b : Before) (ws : List Word) (jog : JogMove) → IsSteady b.state → jog_of b.state.parser b.state.settings ws ≡ Ok jog → Reaches (jogging b jog)
jogging_reaches b ws jog steady e =
    let p = b.state.parser in
    let s = b.state.settings in
    let is = jog_is p s ws jog e in
    let near = some_if_none (jog_error s ws (target p ws)) (passes p s ws is.0) (stays_near s ws (target p ws) (jog_error s ws (target p ws)) refl) in
    let way : IsMove jog.mv = subst (λ (x : JogMove). IsMove x.mv) is.1 (record { from = steady.place; to = is_place s.limits.per_mm (target p ws) steady.scales near }) in
    let m = planned b.number s jog.mv jog.rate in
    record { place = way.to; asked = subst AllInReach (sym (jog_asks b jog)) (move_reaches m (events_of jog.mv == 0) refl way) }

refused_reaches : (b : Before) (n : ℕ) → IsSteady b.state → Reaches (refused b n)
refused_reaches b n steady = record { place = steady.place; asked = tt }

open_reaches : (runs : Bool) (b : Before) (kept : List ℕ) (o : Outcome) → IsSteady b.state → Becomes runs b kept o → Reaches o
open_reaches runs b kept o steady is = holds_by_cause runs b kept Reaches (record {
  refuses = λ n other. refused_reaches b n steady;
  busy = λ cause. refused_reaches b 8 steady;
  locked = λ cause. refused_reaches b 9 steady;
  tells = λ next body same listing. told_reaches b next body steady same;
  executes = λ ws a e. executed_reaches b ws a steady e;
  jogs = λ ws jog e. jogging_reaches b ws jog steady e;
  limits = λ beyond. record { place = steady.place; asked = tt };
}) o is

-- ---- the scales behind a line

abbrev HasScales : Outcome → Type 0
HasScales o = OnEachAxis IsScale o.next.settings.limits.per_mm

module _ (b : Before) (scales : OnEachAxis IsScale b.state.settings.limits.per_mm) where
  refused_scales : (n : ℕ) (o : Outcome) → o ≡ refused b n → HasScales o
  refused_scales n o is = subst HasScales (sym is) scales

  by_verdict : (v : Verdict) (o : Outcome) → ByVerdict b v o → HasScales o
  by_verdict (Accept a) o is = subst HasScales (sym is) scales
  by_verdict (Refuse code) o is = refused_scales code.0 o is
  by_verdict Limit o is = subst HasScales (sym is) scales

  by_words : (ws : Result (List Word) WordFault) (o : Outcome) → ByWords b ws o → HasScales o
  by_words (Err fault) o is = refused_scales (fault_number fault) o is
  by_words (Ok ws) o is = by_verdict (verdict b.state.parser b.state.settings ws) o is

  by_setting : (n : ℕ) (value : Decimal) (code : Option Code) (o : Outcome) → set_refusal n value ≡ code → BySetting b n value code o → HasScales o
  by_setting n value (Some code) o e is = refused_scales code.0 o is
  by_setting n value None o e is = scales_set b.state.settings o.next.settings n value e is.settings scales

  by_command : (c : Result Command Code) (o : Outcome) → ByCommand b c o → HasScales o
  by_command (Err code) o is = refused_scales code.0 o is
  by_command (Ok ListSettings) o is = subst HasScales (sym is) scales
  by_command (Ok ListModes) o is = subst HasScales (sym is) scales
  by_command (Ok ListOffsets) o is = subst HasScales (sym is) scales
  by_command (Ok Unlock) o is = subst HasScales (sym is) scales
  by_command (Ok (Set n value)) o is = by_setting n value (set_refusal n value) o refl is

  by_jog_move : (r : Result JogMove Code) (o : Outcome) → ByJogMove b r o → HasScales o
  by_jog_move (Err code) o is = refused_scales code.0 o is
  by_jog_move (Ok jog) o is = subst HasScales (sym is) scales

  by_jog : (ws : Result (List Word) WordFault) (o : Outcome) → ByJog b ws o → HasScales o
  by_jog (Err fault) o is = refused_scales (fault_number fault) o is
  by_jog (Ok ws) o is = by_jog_move (jog_of b.state.parser b.state.settings ws) o is

  by_dollar : (runs : Bool) (kept : List ℕ) (o : Outcome) → ByDollar runs b kept o → HasScales o
  by_dollar runs kept o (inl busy) = refused_scales 8 o busy.outcome
  by_dollar runs kept o (inr is) = by_either (is_jog (kind_of kept)) _ _ (HasScales o) (λ _ here. by_jog (words_of (jog_words kept)) o here) (λ _ here. by_command (command_of kept) o here) is

  by_code : (runs : Bool) (kept : List ℕ) (o : Outcome) → ByCode runs b kept o → HasScales o
  by_code runs kept o (inl locked) = refused_scales 9 o locked.outcome
  by_code runs kept o (inr is) = by_words (words_of kept) o is

  by_kept : (runs : Bool) (kept : List ℕ) (o : Outcome) → ByKept runs b kept o → HasScales o
  by_kept runs [] o is = subst HasScales (sym is) scales
  by_kept runs (c ∷ cs) o is = by_either (nat_eq c 36) _ _ (HasScales o) (λ _ here. by_dollar runs (c ∷ cs) o here) (λ _ here. by_code runs (c ∷ cs) o here) is

  open_scales : (runs : Bool) (kept : List ℕ) (o : Outcome) → Becomes runs b kept o → HasScales o
  open_scales runs kept o is = by_either (nat_lt most_kept (length kept)) _ _ (HasScales o) (λ _ here. refused_scales 11 o here) (λ _ here. by_kept runs kept o here) is

  locked_scales : (kept : List ℕ) (o : Outcome) → BecomesLocked b kept o → HasScales o
  locked_scales kept o is = holds_of_locked b kept HasScales (λ n. scales) (λ body few. scales) (by_command (command_of kept)) o is

-- ---- a line at a point

locked_reaches : (b : Before) (kept : List ℕ) (o : Outcome) → IsSteady b.state → BecomesLocked b kept o → Reaches o
locked_reaches b kept o steady is =
    let still = locked_still b kept o is in
    record { place = subst (λ (p : Parser). IsPlace p.pos_steps) (sym still.parser) steady.place; asked = subst AllInReach (sym still.asks) tt }

pub line_reaches : (runs : Bool) (p : Point) (kept : List ℕ) (o : Outcome) → IsSteady p.before.state → BecomesAt runs p kept o → Reaches o
line_reaches runs p kept o steady is = by_either p.locked _ _ (Reaches o) (λ _ here. locked_reaches p.before kept o steady here) (λ _ here. open_reaches runs p.before kept o steady here) is

pub steady_behind : (runs : Bool) (p : Point) (kept : List ℕ) (o : Outcome) → IsSteady p.before.state → BecomesAt runs p kept o → IsSteady o.next
steady_behind runs p kept o steady is = record {
  place = (line_reaches runs p kept o steady is).place;
  scales = by_either p.locked _ _ (HasScales o) (λ _ here. locked_scales p.before steady.scales kept o here) (λ _ here. open_scales p.before steady.scales runs kept o here) is;
}

in_reach : (n : ℕ) → n ≡ 250000 → IsScale n
in_reach n e = (omega (arith, e), omega (arith, e))

pub opening_steady : (s : State) → IsOpening s → IsSteady s
opening_steady s is = record {
  place = subst (λ (p : Parser). IsPlace p.pos_steps) (sym is.parser) (record { x = omega arith; y = omega arith; z = omega arith });
  scales = record { x = in_reach _ (ap (value_in 3) is.settings); y = in_reach _ (ap (value_in 4) is.settings); z = in_reach _ (ap (value_in 5) is.settings) };
}
