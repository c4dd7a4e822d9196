-- How much there is to do of a line at most: its ticks, and its replies.
use Rattle.std.proofs.Common.{◌≡◌, ℕ, ◌+◌, ◌*◌, ◌≤◌, ◌==◌, ◌&&◌, List, [], ◌∷◌, ◌++◌, true, false, Bool, if◌then◌else◌, length, Some, None, refl, ap, ◌∙◌, subst, arith}
use Rattle.std.specs.declared.option.Option.{Option}
use Rattle.std.proofs.lemmas.List.{length-append, length-map}
use Rattle.std.proofs.lemmas.Grind.{flat_map-append}
use Rattle.units.specs.declared.Nm3.{Nm3}
use Rattle.units.specs.declared.Rate.{Rate}
use Rattle.units.specs.declared.Steps3.{Steps3}
use Rattle.gcode_words.specs.declared.Word.{Word}
use Rattle.code_table.specs.declared.Code.{Code}
use Rattle.code_table.specs.Tables.{code}
use Rattle.line_words.specs.Codes.{has_g, has_m}
use Rattle.line_words.specs.Given.{names_axis}
use Rattle.line_words.specs.Targets.{targets, targets_home, moves}
use Rattle.modal_state.specs.declared.Offsets.{Offsets}
use Rattle.modal_state.specs.declared.Parser.{Parser}
use Rattle.modal_state.specs.declared.SpindleMode.{SpindleMode}
use Rattle.modal_state.specs.declared.SpindleMode.TheVariants.{Off, Cw, Ccw}
use Rattle.settings.specs.declared.Settings.{Settings}
use Rattle.gcode_check.specs.Conditions.{leaves_travel}
use Rattle.travel_limits.specs.Reach.{steps3}
use Rattle.gcode_check.specs.Effects.{stops, ends_program}
use Rattle.gcode_check.specs.Items.{item_if, spindle_items, coolant_items, dwell_items, move_items, moves_through, flow_items, items_of}
use Rattle.gcode_check.specs.Verdicts.{refusal_of, verdict_by, verdict}
use Rattle.gcode_check.specs.declared.Accept.{Accept as Accepted}
use Rattle.gcode_check.specs.declared.Item.{Item}
use Rattle.gcode_check.specs.declared.Item.TheVariants as items
use Rattle.gcode_check.specs.declared.Verdict.{Verdict}
use Rattle.gcode_check.specs.declared.Verdict.TheVariants.{Accept, Refuse, Limit}
use Rattle.jog.specs.declared.JogMove.{JogMove}
use Rattle.status_report.specs.declared.Reply.{Reply}
use Rattle.status_report.specs.declared.Reply.TheVariants as replies
use Rattle.status_report.specs.Lists.{setting_replies, offset_replies}
use Rattle.step_line.specs.Asking.{Asked}
use Rattle.step_line.specs.Asking.Asked.{a_move, a_mark, a_rest}
use Rattle.step_line.specs.Counting.{events_of}
use Rattle.status_report.specs.declared.Message.TheVariants.{Unlocked}
use Rattle.run_rules.specs.Locking.{unlocked}
use Rattle.run_rules.specs.declared.State.{State}
use Rattle.run_rules.specs.Work.{Task, Outcome, asks, tells, telling, told_by}
use Rattle.run_rules.specs.Work as work
use Rattle.run_rules.specs.Work.Task.{tell}
use Rattle.run_rules.specs.Asks.{spindle_after, flood_after, item_work, work_of, planned, move_asked}
use Rattle.run_rules.specs.Outcomes.{Before, Becomes, refused, told, executed, jogging}
use Rattle.run_rules.proofs.Answering.{asking_tells, telling_tells}
use Rattle.run_rules.proofs.Each.{IsListing, HoldsByCause, holds_of_bodies, holds_by_cause}

-- so many ticks has a move at most
abbrev pub most_events : ℕ
most_events = 200000000

-- how many ticks are asked for at most
abbrev pub weight : List Asked → ℕ
weight [] = 0
weight (a_move m ∷ asked) = most_events + weight asked
weight (a_mark m ∷ asked) = 1 + weight asked
weight (a_rest ∷ asked) = weight asked

pub weight_on : (xs ys : List Asked) → weight (xs ++ ys) ≡ weight xs + weight ys
weight_on [] ys = omega arith
weight_on (a_move m ∷ xs) ys = let e = weight_on xs ys in omega arith
weight_on (a_mark m ∷ xs) ys = let e = weight_on xs ys in omega arith
weight_on (a_rest ∷ xs) ys = weight_on xs ys

asked_on : (xs ys : List Task) → weight (asks (xs ++ ys)) ≡ weight (asks xs) + weight (asks ys)
asked_on xs ys = ap weight (flat_map-append work.asked_by_task xs ys) ∙ weight_on (asks xs) (asks ys)

tells_on : (xs ys : List Task) → length (tells (xs ++ ys)) ≡ length (tells xs) + length (tells ys)
tells_on xs ys = ap (λ (rs : List Reply). length rs) (flat_map-append told_by xs ys) ∙ length-append (tells xs) (tells ys)

-- ---- items

-- at most so many ticks, and so many replies, come of an item
abbrev ticks_by : Item → ℕ
ticks_by (items.Move way rate) = most_events
ticks_by items.Pause = 0
ticks_by items.ProgramEnd = 2
ticks_by _ = 1

abbrev replies_by : Item → ℕ
replies_by items.ProgramEnd = 1
replies_by _ = 0

abbrev ticks_by_all : List Item → ℕ
ticks_by_all [] = 0
ticks_by_all (item ∷ more) = ticks_by item + ticks_by_all more

abbrev replies_by_all : List Item → ℕ
replies_by_all [] = 0
replies_by_all (item ∷ more) = replies_by item + replies_by_all more

item_ticks : (line : ℕ) (s : Settings) (spindle : SpindleMode) (flood : Bool) (item : Item) → weight (asks (item_work line s spindle flood item)) ≤ ticks_by item
item_ticks line s spindle flood (items.Move mv rate) = by_events (events_of mv == 0) refl
  where
    by_events : (b : Bool) → (events_of mv == 0) ≡ b → weight (asks (item_work line s spindle flood (items.Move mv rate))) ≤ most_events
    by_events true is = rw is (omega arith)
    by_events false is = rw is (omega arith)
item_ticks line s Off true items.ProgramEnd = omega arith
item_ticks line s Off false items.ProgramEnd = omega arith
item_ticks line s Cw true items.ProgramEnd = omega arith
item_ticks line s Cw false items.ProgramEnd = omega arith
item_ticks line s Ccw true items.ProgramEnd = omega arith
item_ticks line s Ccw false items.ProgramEnd = omega arith
item_ticks line s spindle flood _ = omega arith

item_replies : (line : ℕ) (s : Settings) (spindle : SpindleMode) (flood : Bool) (item : Item) → length (tells (item_work line s spindle flood item)) ≤ replies_by item
item_replies line s spindle flood (items.Move mv rate) =
    let e = ap (λ (rs : List Reply). length rs) (asking_tells (move_asked (planned line s mv rate))) in omega arith
item_replies line s Off true items.ProgramEnd = omega arith
item_replies line s Off false items.ProgramEnd = omega arith
item_replies line s Cw true items.ProgramEnd = omega arith
item_replies line s Cw false items.ProgramEnd = omega arith
item_replies line s Ccw true items.ProgramEnd = omega arith
item_replies line s Ccw false items.ProgramEnd = omega arith
item_replies line s spindle flood _ = omega arith

work_ticks : (line : ℕ) (s : Settings) (spindle : SpindleMode) (flood : Bool) (all : List Item) → weight (asks (work_of line s spindle flood all)) ≤ ticks_by_all all
work_ticks line s spindle flood [] = omega arith
work_ticks line s spindle flood (item ∷ more) =
    let one = item_ticks line s spindle flood item in
    let rest = work_ticks line s (spindle_after spindle item) (flood_after flood item) more in
    let e = asked_on (item_work line s spindle flood item) (work_of line s (spindle_after spindle item) (flood_after flood item) more) in
    omega arith

work_replies : (line : ℕ) (s : Settings) (spindle : SpindleMode) (flood : Bool) (all : List Item) → length (tells (work_of line s spindle flood all)) ≤ replies_by_all all
work_replies line s spindle flood [] = omega arith
work_replies line s spindle flood (item ∷ more) =
    let one = item_replies line s spindle flood item in
    let rest = work_replies line s (spindle_after spindle item) (flood_after flood item) more in
    let e = tells_on (item_work line s spindle flood item) (work_of line s (spindle_after spindle item) (flood_after flood item) more) in
    omega arith

-- ---- the items of a line

-- at most so many ticks, and so many replies, come of a line
abbrev pub line_ticks : ℕ
line_ticks = 400000005

abbrev pub line_replies : ℕ
line_replies = 64

record AreFew (all : List Item) (ticks told : ℕ) : Type 0 where
  ticks_few : ticks_by_all all ≤ ticks
  told_few : replies_by_all all ≤ told

few_on : (xs ys : List Item) (a b c d : ℕ) → AreFew xs a c → AreFew ys b d → AreFew (xs ++ ys) (a + b) (c + d)
few_on [] ys a b c d x y = let t = y.ticks_few in let r = y.told_few in record { ticks_few = omega arith; told_few = omega arith }
few_on (item ∷ xs) ys a b c d x y =
    let front = few_on xs ys (ticks_by_all xs) b (replies_by_all xs) d (record { ticks_few = omega arith; told_few = omega arith }) y in
    let t = front.ticks_few in let r = front.told_few in let u = x.ticks_few in let v = x.told_few in
    record { ticks_few = omega arith; told_few = omega arith }

few_if : (b : Bool) (item : Item) → AreFew (item_if b item) (ticks_by item) (replies_by item)
few_if true item = record { ticks_few = omega arith; told_few = omega arith }
few_if false item = record { ticks_few = omega arith; told_few = omega arith }

few_moves : (from : Steps3) (places : List Steps3) (rate : Rate) → AreFew (moves_through from places rate) (most_events * length places) 0
few_moves from [] rate = record { ticks_few = omega arith; told_few = omega arith }
few_moves from (to ∷ places) rate =
    let m = few_moves to places rate in let t = m.ticks_few in let r = m.told_few in
    record { ticks_few = omega arith; told_few = omega arith }

few_items : (p : Parser) (ws : List Word) (places : List Steps3) → length places ≤ 2 → AreFew (items_of p ws places) line_ticks 1
unfolding items_of
few_items p ws places few =
    let s : AreFew (spindle_items p ws) 1 0 = few_if _ _ in
    let c : AreFew (coolant_items p ws) 1 0 = few_if _ _ in
    let d : AreFew (dwell_items ws) 1 0 = few_if _ _ in
    let m : AreFew (move_items p ws places) (most_events * length places) 0 = few_moves p.pos_steps places _ in
    let f : AreFew (flow_items ws) 2 1 = few_on _ _ 0 2 0 1 (few_if (has_m (code 0 0) ws) items.Pause) (few_if (ends_program ws) items.ProgramEnd) in
    let sc = few_on (spindle_items p ws) (coolant_items p ws) 1 1 0 0 s c in
    let scd = few_on (spindle_items p ws ++ coolant_items p ws) (dwell_items ws) 2 1 0 0 sc d in
    let scdm = few_on (spindle_items p ws ++ coolant_items p ws ++ dwell_items ws) (move_items p ws places) 3 (most_events * length places) 0 0 scd m in
    let all = few_on (spindle_items p ws ++ coolant_items p ws ++ dwell_items ws ++ move_items p ws places) (flow_items ws) (3 + most_events * length places) 2 0 1 scdm f in
    let t = all.ticks_few in let r = all.told_few in
    record { ticks_few = omega arith; told_few = omega arith }

by_if : {A : Type 0} (b : Bool) (xs ys : List A) (n : ℕ) → length xs ≤ n → length ys ≤ n → length (if b then xs else ys) ≤ n
by_if true xs ys n x y = x
by_if false xs ys n x y = y

few_home : (p : Parser) (ws : List Word) (home : Nm3) → length (targets_home p ws home) ≤ 2
few_home p ws home = by_if (names_axis ws) _ _ 2 (omega arith) (omega arith)

few_targets : (p : Parser) (ws : List Word) → length (targets p ws) ≤ 2
unfolding targets
few_targets p ws =
    by_if (has_g (code 28 0) ws) _ _ 2 (few_home p ws p.offsets.home28)
    (by_if (has_g (code 30 0) ws) _ _ 2 (few_home p ws p.offsets.home30) (by_if (moves ws && names_axis ws) _ _ 2 (omega arith) (omega arith)))

-- what is accepted is little
abbrev FewIn : Verdict → Type 0
FewIn (Accept a) = AreFew a.items.items line_ticks 1
FewIn (Refuse code) = Unit {0}
FewIn Limit = Unit {0}

few_by : (refusal : Option Code) (p : Parser) (s : Settings) (ws : List Word) → FewIn (verdict_by refusal p s ws)
few_by (Some refused) p s ws = tt
few_by None p s ws = by_travel (leaves_travel p s ws) refl
  where
    few : length (stops p s ws) ≤ 2
    few = let e = length-map (targets p ws) (steps3 s.limits.per_mm) in let t = few_targets p ws in omega arith

    by_travel : (b : Bool) → leaves_travel p s ws ≡ b → FewIn (verdict_by None p s ws)
    by_travel true is = rw is tt
    by_travel false is = rw is (few_items p ws (stops p s ws) few)

few_accepted : (p : Parser) (s : Settings) (ws : List Word) → FewIn (verdict p s ws)
unfolding verdict
few_accepted p s ws = few_by (refusal_of p ws) p s ws

-- ---- what becomes of a line

pub record IsModest (o : Outcome) : Type 0 where
  pub ticks : weight (asks o.work) ≤ line_ticks
  pub told : length (tells o.work) ≤ line_replies

-- what only tells asks for nothing
telling_asks : (rs : List Reply) → weight (asks (telling rs)) ≡ 0
telling_asks [] = refl
telling_asks (r ∷ rs) = telling_asks rs

told_modest : (next : State) (body : List Reply) → length body ≤ 63 → IsModest (told next body)
told_modest next body few =
    let all = body ++ replies.Ok ∷ [] in
    let t = telling_asks all in
    let e = ap (λ (rs : List Reply). length rs) (telling_tells all) in
    let l = length-append body (replies.Ok ∷ []) in
    record { ticks = omega arith; told = omega arith }

executed_modest : (b : Before) (a : Accepted) → AreFew a.items.items line_ticks 1 → IsModest (executed b a)
executed_modest b a few =
    let modal = b.state.parser.modal in
    let all = work_of b.number b.state.settings modal.spindle modal.flood a.items.items in
    let t = work_ticks b.number b.state.settings modal.spindle modal.flood a.items.items in
    let r = work_replies b.number b.state.settings modal.spindle modal.flood a.items.items in
    let f = few.ticks_few in let g = few.told_few in
    let e = asked_on all (tell replies.Ok ∷ []) in let d = tells_on all (tell replies.Ok ∷ []) in
    record { ticks = omega arith; told = omega arith }

few_settings : (s : Settings) → length (setting_replies s) ≤ 63
unfolding setting_replies
few_settings s = omega arith

few_offsets : (offsets : Offsets) → length (offset_replies offsets) ≤ 63
unfolding offset_replies
few_offsets offsets = omega arith

few_listed : (body : List Reply) → IsListing body → length body ≤ 63
few_listed body kind = holds_of_bodies (λ (rs : List Reply). length rs ≤ 63) (omega arith) few_settings (λ p. omega arith) few_offsets body kind

jogging_modest : (b : Before) (jog : JogMove) → IsModest (jogging b jog)
jogging_modest b jog =
    let way = items.Move jog.mv jog.rate in
    let all = item_work b.number b.state.settings Off false way in
    let t = item_ticks b.number b.state.settings Off false way in
    let r = item_replies b.number b.state.settings Off false way in
    let e = asked_on all (tell replies.Ok ∷ []) in let d = tells_on all (tell replies.Ok ∷ []) in
    record { ticks = omega arith; told = omega arith }

pub modest : (runs : Bool) (b : Before) (kept : List ℕ) (o : Outcome) → Becomes runs b kept o → IsModest o
modest runs b kept o is =
    let little : (n : ℕ) → IsModest (refused b n) = λ n. record { ticks = omega arith; told = omega arith } in
    let each : HoldsByCause runs b kept IsModest = record {
      refuses = λ n other. little n;
      busy = λ cause. little 8;
      locked = λ cause. little 9;
      tells = λ next body same kind. told_modest next body (few_listed body kind);
      executes = λ ws a e. executed_modest b a (subst FewIn e (few_accepted b.state.parser b.state.settings ws));
      jogs = λ ws jog e. jogging_modest b jog;
      limits = λ beyond. record { ticks = omega arith; told = omega arith };
    } in
    holds_by_cause runs b kept IsModest each o is

-- and a line that unlocks the machine tells two replies
pub unlock_modest : (b : Before) → IsModest (unlocked b)
unlock_modest b = told_modest b.state (replies.Message Unlocked ∷ []) (omega arith)
