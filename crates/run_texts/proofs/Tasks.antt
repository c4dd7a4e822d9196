-- What there is to do of a line is few tasks.
use Rattle.std.proofs.Common.{◌≡◌, ℕ, suc, ◌*◌, ◌≤◌, List, [], ◌∷◌, ◌++◌, length, nat_eq, nat_lt, true, false, Bool, ◌==◌, if◌then◌else◌, sym, refl, ap, subst, arith, length-append}
use Rattle.std.proofs.lemmas.List.{length-map}
use Rattle.units.specs.declared.Steps3.{Steps3}
use Rattle.units.specs.declared.Nm3.{Nm3}
use Rattle.units.specs.declared.Rate.{Rate}
use Rattle.code_table.specs.Tables.{code}
use Rattle.gcode_words.specs.declared.Word.{Word}
use Rattle.gcode_check.specs.Effects.{stops, ends_program}
use Rattle.gcode_check.specs.Items.{items_of, item_if, moves_through, rate_of, spindle_changes, coolant_changes, speed_of, dwell_time}
use Rattle.gcode_check.specs.Verdicts.{verdict}
use Rattle.gcode_check.specs.declared.Accept.{Accept as Accepted}
use Rattle.gcode_check.specs.declared.Item.{Item}
use Rattle.gcode_check.specs.declared.Item.TheVariants.{Spindle, Coolant, Dwell, Move, Pause, ProgramEnd}
use Rattle.gcode_check.specs.declared.Verdict.TheVariants.{Accept}
use Rattle.gcode_check.proofs.Causes.{is_accepted}
use Rattle.jog.specs.declared.JogMove.{JogMove}
use Rattle.line_words.specs.Codes.{has_g, has_m}
use Rattle.line_words.specs.LineModes.{spindle_of, flood_of}
use Rattle.line_words.specs.Given.{names_axis}
use Rattle.line_words.specs.Targets.{targets, targets_motion, targets_home}
use Rattle.modal_state.specs.declared.Parser.{Parser}
use Rattle.modal_state.specs.declared.Offsets.{Offsets}
use Rattle.modal_state.specs.declared.SpindleMode.{SpindleMode}
use Rattle.modal_state.specs.declared.SpindleMode.TheVariants.{Off, Cw, Ccw}
use Rattle.settings.specs.declared.Settings.{Settings}
use Rattle.status_report.specs.Lists.{setting_replies, offset_replies}
use Rattle.status_report.specs.declared.Reply.{Reply}
use Rattle.status_report.specs.declared.Reply.TheVariants.{Ok as Done, Message}
use Rattle.status_report.specs.declared.Message.TheVariants.{Unlocked}
use Rattle.step_line.specs.Counting.{events_of}
use Rattle.step_line.specs.declared.planned_move.PlannedMove.{PlannedMove}
use Rattle.system_lines.specs.Commands.{kind_of, command_of}
use Rattle.system_lines.specs.declared.Kind.{Kind as DollarKind}
use Rattle.system_lines.specs.declared.Kind.TheVariants as kinds
use Rattle.run_rules.specs.declared.State.{State}
use Rattle.run_rules.specs.Asks.{item_work, work_of, move_asked, planned, spindle_after, flood_after}
use Rattle.run_rules.specs.Outcomes.{Before, Becomes, ByCommand, executed, jogging, told, refused, most_kept}
use Rattle.run_rules.specs.Work.{Outcome, telling, asking}
use Rattle.run_rules.specs.Work.Task.{tell}
use Rattle.run_rules.proofs.Each.{IsListing, holds_of_bodies, holds_of_commands, holds_by_cause, by_either}
use Rattle.run_texts.specs.Points.{Point, BecomesLocked, ByLockedKept, ByLockedDollar, BecomesAt}

-- ---- the items of a line

one_item : (holds : Bool) (item : Item) → length (item_if holds item) ≤ 1
one_item true item = omega arith
one_item false item = omega arith

as_many_moves : (from : Steps3) (places : List Steps3) (rate : Rate) → length (moves_through from places rate) ≡ length places
as_many_moves from [] rate = refl
as_many_moves from (to ∷ places) rate = ap suc (as_many_moves to places rate)

two_home : (names : Bool) (a b c : Nm3) → length (if names then a ∷ b ∷ [] else c ∷ []) ≤ 2
two_home true a b c = omega arith
two_home false a b c = omega arith

two_motion : (goes : Bool) (a : Nm3) → length (if goes then a ∷ [] else []) ≤ 2
two_motion true a = omega arith
two_motion false a = omega arith

two_by : (first second : Bool) (a b c : List Nm3) → length a ≤ 2 → length b ≤ 2 → length c ≤ 2 → length (if first then a else if second then b else c) ≤ 2
two_by true second a b c x y z = x
two_by false true a b c x y z = y
two_by false false a b c x y z = z

-- a line has two targets at most
two_targets : (p : Parser) (ws : List Word) → length (targets p ws) ≤ 2
unfolding targets
two_targets p ws =
    two_by (has_g (code 28 0) ws) (has_g (code 30 0) ws) (targets_home p ws p.offsets.home28) (targets_home p ws p.offsets.home30) (targets_motion p ws)
    (two_home (names_axis ws) _ _ _) (two_home (names_axis ws) _ _ _) (two_motion _ _)

few_items : (p : Parser) (ws : List Word) (places : List Steps3) → length places ≤ 2 → length (items_of p ws places) ≤ 7
unfolding items_of
few_items p ws places few =
    let spindle = one_item (spindle_changes p ws) (Spindle (spindle_of p ws) (speed_of p ws)) in
    let coolant = one_item (coolant_changes p ws) (Coolant (flood_of p ws)) in
    let dwell = one_item (has_g (code 4 0) ws) (Dwell (dwell_time ws)) in
    let ways = as_many_moves p.pos_steps places (rate_of p ws) in
    let pauses = one_item (has_m (code 0 0) ws) Pause in
    let ends = one_item (ends_program ws) ProgramEnd in
    simp length-append (omega (arith, spindle, coolant, dwell, ways, pauses, ends, few))

move_tasks : (m : PlannedMove) (t : Bool) → (events_of m.mv == 0) ≡ t → length (asking (move_asked m)) ≤ 1
move_tasks m true e = rw e (omega arith)
move_tasks m false e = rw e (omega arith)

item_tasks : (n : ℕ) (s : Settings) (spindle : SpindleMode) (flood : Bool) (item : Item) → length (item_work n s spindle flood item) ≤ 6
item_tasks n s spindle flood (Spindle mode speed) = omega arith
item_tasks n s spindle flood (Coolant on) = omega arith
item_tasks n s spindle flood (Dwell ms) = omega arith
item_tasks n s spindle flood (Move mv rate) = let one = move_tasks (planned n s mv rate) (events_of mv == 0) refl in omega (arith, one)
item_tasks n s spindle flood Pause = omega arith
item_tasks n s Off true ProgramEnd = omega arith
item_tasks n s Off false ProgramEnd = omega arith
item_tasks n s Cw true ProgramEnd = omega arith
item_tasks n s Cw false ProgramEnd = omega arith
item_tasks n s Ccw true ProgramEnd = omega arith
item_tasks n s Ccw false ProgramEnd = omega arith

work_tasks : (n : ℕ) (s : Settings) (spindle : SpindleMode) (flood : Bool) (items : List Item) → length (work_of n s spindle flood items) ≤ 6 * length items
work_tasks n s spindle flood [] = omega arith
work_tasks n s spindle flood (item ∷ items) =
    let one = item_tasks n s spindle flood item in
    let more = work_tasks n s (spindle_after spindle item) (flood_after flood item) items in
    let both = length-append (item_work n s spindle flood item) (work_of n s (spindle_after spindle item) (flood_after flood item) items) in
    omega (arith, one, more, both)

-- ---- the tasks of a line

abbrev IsShort : Outcome → Type 0
IsShort o = length o.work ≤ 64

executed_short : (b : Before) (ws : List Word) (a : Accepted) → verdict b.state.parser b.state.settings ws ≡ Accept a → IsShort (executed b a)
executed_short b ws a e =
    let p = b.state.parser in
    let s = b.state.settings in
    let places = stops p s ws in
    let same : items_of p ws places ≡ a.items.items = ap (λ (x : Accepted). x.items.items) (is_accepted p s ws a e).2 in
    let few : length places ≤ 2 = subst (λ n. n ≤ 2) (sym (length-map (targets p ws) _)) (two_targets p ws) in
    let items : length a.items.items ≤ 7 = subst (λ (xs : List Item). length xs ≤ 7) same (few_items p ws places few) in
    let work = work_tasks b.number s p.modal.spindle p.modal.flood a.items.items in
    let both = length-append (work_of b.number s p.modal.spindle p.modal.flood a.items.items) (tell Done ∷ []) in
    omega (arith, items, work, both)

telling_as_many : (rs : List Reply) → length (telling rs) ≡ length rs
telling_as_many [] = refl
telling_as_many (r ∷ rs) = ap suc (telling_as_many rs)

told_short : (next : State) (body : List Reply) → length body ≤ 15 → IsShort (told next body)
told_short next body few =
    let all = telling_as_many (body ++ Done ∷ []) in
    let both = length-append body (Done ∷ []) in
    omega (arith, few, all, both)

few_settings : (s : Settings) → length (setting_replies s) ≤ 15
unfolding setting_replies
few_settings s = omega arith

few_offsets : (at : Offsets) → length (offset_replies at) ≤ 15
unfolding offset_replies
few_offsets at = omega arith

few_listed : (body : List Reply) → IsListing body → length body ≤ 15
few_listed body is = holds_of_bodies (λ (rs : List Reply). length rs ≤ 15) (omega arith) few_settings (λ p. omega arith) few_offsets body is

jogging_short : (b : Before) (jog : JogMove) → IsShort (jogging b jog)
jogging_short b jog =
    let m = planned b.number b.state.settings jog.mv jog.rate in
    let one = move_tasks m (events_of jog.mv == 0) refl in
    let both = length-append (asking (move_asked m)) (tell Done ∷ []) in
    omega (arith, one, both)

open_short : (runs : Bool) (b : Before) (kept : List ℕ) (o : Outcome) → Becomes runs b kept o → IsShort o
open_short runs b kept o is = holds_by_cause runs b kept IsShort (record {
  refuses = λ n other. omega arith;
  busy = λ cause. omega arith;
  locked = λ cause. omega arith;
  tells = λ next body same listing. told_short next body (few_listed body listing);
  executes = executed_short b;
  jogs = λ ws jog e. jogging_short b jog;
  limits = λ beyond. omega arith;
}) o is

-- Something holds of what becomes of a line of a locked machine, where it holds of a line that is refused, that only tells something and
-- leaves the state, or that is served as a command.
pub holds_of_locked : (b : Before) (kept : List ℕ) (P : Outcome → Type 0) → ((n : ℕ) → P (refused b n)) → ((body : List Reply) → length body ≤ 15 → P (told b.state body))
    → ((o : Outcome) → ByCommand b (command_of kept) o → P o) → (o : Outcome) → BecomesLocked b kept o → P o
holds_of_locked b kept P refuses tells serves o is = by_either (nat_lt most_kept (length kept)) _ _ (P o) (λ _ here. refusal 11 here) (λ _ here. by_kept kept serves here) is
  where
    refusal : (n : ℕ) → o ≡ refused b n → P o
    refusal n is = subst P (sym is) (refuses n)

    by_kind : (all : List ℕ) (kind : DollarKind) → ((o : Outcome) → ByCommand b (command_of all) o → P o) → ByLockedDollar b all kind o → P o
    by_kind all kinds.Unlock serves is = subst P (sym is) (tells (Message Unlocked ∷ []) (omega arith))
    by_kind all kinds.Jog serves is = refusal 8 is
    by_kind all kinds.BareJog serves is = refusal 8 is
    by_kind all _ serves is = serves o is

    by_kept : (all : List ℕ) → ((o : Outcome) → ByCommand b (command_of all) o → P o) → ByLockedKept b all o → P o
    by_kept [] serves is = subst P (sym is) (tells [] (omega arith))
    by_kept (c ∷ cs) serves is = by_either (nat_eq c 36) _ _ (P o) (λ _ here. by_kind (c ∷ cs) (kind_of (c ∷ cs)) serves here) (λ _ here. refusal 9 here) is

locked_short : (b : Before) (kept : List ℕ) (o : Outcome) → BecomesLocked b kept o → IsShort o
locked_short b kept o is =
    holds_of_locked b kept IsShort (λ n. omega arith) (told_short b.state)
    (λ u served. holds_of_commands b IsShort (command_of kept) u (λ code e. omega arith) (λ n value code e. omega arith) (λ next body same listing. told_short next body (few_listed body listing)) served) o is

-- 64 tasks at most are what there is to do of a line
pub short_work : (runs : Bool) (p : Point) (kept : List ℕ) (o : Outcome) → BecomesAt runs p kept o → length o.work ≤ 64
short_work runs p kept o is = by_either p.locked _ _ (IsShort o) (λ _ here. locked_short p.before kept o here) (λ _ here. open_short runs p.before kept o here) is
