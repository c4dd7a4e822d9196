-- The machine is held at most once in a line.
use Rattle.std.proofs.Common.{◌≡◌, ℕ, ◌+◌, ◌≤◌, Bool, true, false, List, [], ◌∷◌, ◌++◌, refl, subst, arith}
use Rattle.units.specs.declared.Rate.{Rate}
use Rattle.units.specs.declared.Steps3.{Steps3}
use Rattle.gcode_words.specs.declared.Word.{Word}
use Rattle.gcode_check.specs.Effects.{stops}
use Rattle.gcode_check.specs.Items.{items_of, item_if, spindle_items, coolant_items, dwell_items, moves_through, move_items, rate_of, flow_items}
use Rattle.gcode_check.specs.Verdicts.{verdict}
use Rattle.gcode_check.proofs.Causes.{is_accepted}
use Rattle.gcode_check.specs.declared.Accept.{Accept as Accepted}
use Rattle.gcode_check.specs.declared.Item.{Item}
use Rattle.gcode_check.specs.declared.Item.TheVariants as items
use Rattle.gcode_check.specs.declared.Verdict.TheVariants.{Accept}
use Rattle.modal_state.specs.declared.Parser.{Parser}
use Rattle.modal_state.specs.declared.SpindleMode.{SpindleMode}
use Rattle.modal_state.specs.declared.SpindleMode.TheVariants.{Off}
use Rattle.settings.specs.declared.Settings.{Settings}
use Rattle.jog.specs.declared.JogMove.{JogMove}
use Rattle.status_report.specs.declared.Reply.{Reply}
use Rattle.status_report.specs.declared.Reply.TheVariants as replies
use Rattle.status_report.specs.declared.Message.TheVariants as messages
use Rattle.step_line.specs.Asking.{Asked}
use Rattle.step_line.specs.Asking.Asked.{a_rest}
use Rattle.run_rules.specs.Outcomes.{Before, Becomes, executed, jogging}
use Rattle.run_rules.specs.Asks.{at_rest, item_work, work_of, move_asked, planned, spindle_off, coolant_off}
use Rattle.run_rules.specs.Work.{Task, Outcome, pauses, telling, asking}
use Rattle.run_rules.specs.Work.Task.{ask, tell, pause, normal}
use Rattle.run_rules.proofs.Each.{HoldsByCause, holds_by_cause}

pauses_on : (xs ys : List Task) → pauses (xs ++ ys) ≡ pauses xs + pauses ys
pauses_on [] ys = omega arith
pauses_on (pause ∷ xs) ys = let e = pauses_on xs ys in omega (arith, e)
pauses_on (_ ∷ xs) ys = pauses_on xs ys

asking_pauses : (asked : List Asked) → pauses (asking asked) ≡ 0
asking_pauses [] = refl
asking_pauses (a ∷ asked) = asking_pauses asked

telling_pauses : (rs : List Reply) → pauses (telling rs) ≡ 0
telling_pauses [] = refl
telling_pauses (r ∷ rs) = telling_pauses rs

-- ---- items

abbrev pauses_among : List Item → ℕ
pauses_among [] = 0
pauses_among (items.Pause ∷ more) = pauses_among more + 1
pauses_among (_ ∷ more) = pauses_among more

end_pauses : (marks : List Asked) → pauses (at_rest marks ++ normal ∷ tell (replies.Message messages.ProgramEnd) ∷ []) ≡ 0
end_pauses marks =
    let all = pauses_on (at_rest marks) (normal ∷ tell (replies.Message messages.ProgramEnd) ∷ []) in
    let rest = pauses_on (asking marks) (ask a_rest ∷ []) in
    let none = asking_pauses marks in
    omega (arith, all, rest, none)

-- so many as there are such items
work_pauses : (line : ℕ) (s : Settings) (spindle : SpindleMode) (flood : Bool) (all : List Item) → pauses (work_of line s spindle flood all) ≡ pauses_among all
work_pauses line s spindle flood [] = refl
work_pauses line s spindle flood (items.Spindle mode speed ∷ more) = work_pauses line s mode flood more
work_pauses line s spindle flood (items.Coolant on ∷ more) = work_pauses line s spindle on more
work_pauses line s spindle flood (items.Dwell ms ∷ more) = work_pauses line s spindle flood more
work_pauses line s spindle flood (items.Move mv rate ∷ more) =
    let asked = move_asked (planned line s mv rate) in
    let on = pauses_on (asking asked) (work_of line s spindle flood more) in
    let none = asking_pauses asked in
    let all = work_pauses line s spindle flood more in
    omega (arith, on, none, all)
work_pauses line s spindle flood (items.Pause ∷ more) = let all = work_pauses line s spindle flood more in omega (arith, all)
work_pauses line s spindle flood (items.ProgramEnd ∷ more) =
    let marks = spindle_off spindle ++ coolant_off flood in
    let on = pauses_on (item_work line s spindle flood items.ProgramEnd) (work_of line s Off false more) in
    let none = end_pauses marks in
    let all = work_pauses line s Off false more in
    omega (arith, on, none, all)

among_on : (xs ys : List Item) → pauses_among (xs ++ ys) ≡ pauses_among xs + pauses_among ys
among_on [] ys = omega arith
among_on (items.Pause ∷ xs) ys = let e = among_on xs ys in omega (arith, e)
among_on (_ ∷ xs) ys = among_on xs ys

spindle_pauses : (t : Bool) (mode : SpindleMode) (speed : ℕ) → pauses_among (item_if t (items.Spindle mode speed)) ≡ 0
spindle_pauses true mode speed = refl
spindle_pauses false mode speed = refl

coolant_pauses : (t on : Bool) → pauses_among (item_if t (items.Coolant on)) ≡ 0
coolant_pauses true on = refl
coolant_pauses false on = refl

dwell_pauses : (t : Bool) (ms : ℕ) → pauses_among (item_if t (items.Dwell ms)) ≡ 0
dwell_pauses true ms = refl
dwell_pauses false ms = refl

moves_pause : (from : Steps3) (places : List Steps3) (rate : Rate) → pauses_among (moves_through from places rate) ≡ 0
moves_pause from [] rate = refl
moves_pause from (to ∷ places) rate = moves_pause to places rate

both_pause : (held ends : Bool) → pauses_among (item_if held items.Pause ++ item_if ends items.ProgramEnd) ≤ 1
both_pause true true = omega arith
both_pause true false = omega arith
both_pause false true = omega arith
both_pause false false = omega arith

items_pause : (p : Parser) (ws : List Word) (places : List Steps3) → pauses_among (items_of p ws places) ≤ 1
unfolding items_of
items_pause p ws places =
    let a : pauses_among (items_of p ws places) ≡ pauses_among (spindle_items p ws ++ coolant_items p ws ++ dwell_items ws ++ move_items p ws places) + pauses_among (flow_items ws) =
    among_on (spindle_items p ws ++ coolant_items p ws ++ dwell_items ws ++ move_items p ws places) (flow_items ws) in
    let b = among_on (spindle_items p ws ++ coolant_items p ws ++ dwell_items ws) (move_items p ws places) in
    let c = among_on (spindle_items p ws ++ coolant_items p ws) (dwell_items ws) in
    let d = among_on (spindle_items p ws) (coolant_items p ws) in
    let spindle : pauses_among (spindle_items p ws) ≡ 0 = spindle_pauses _ _ _ in
    let coolant : pauses_among (coolant_items p ws) ≡ 0 = coolant_pauses _ _ in
    let dwell : pauses_among (dwell_items ws) ≡ 0 = dwell_pauses _ _ in
    let moved = moves_pause p.pos_steps places (rate_of p ws) in
    let flow : pauses_among (flow_items ws) ≤ 1 = both_pause _ _ in
    omega (arith, a, b, c, d, spindle, coolant, dwell, moved, flow)

-- ---- outcomes

abbrev PausesOnce : Outcome → Type 0
PausesOnce o = pauses o.work ≤ 1

telling_once : (rs : List Reply) → pauses (telling rs) ≤ 1
telling_once rs = let none = telling_pauses rs in omega (arith, none)

executed_once : (b : Before) (a : Accepted) → pauses_among a.items.items ≤ 1 → PausesOnce (executed b a)
executed_once b a few =
    let spindle = b.state.parser.modal.spindle in
    let flood = b.state.parser.modal.flood in
    let work = work_of b.number b.state.settings spindle flood a.items.items in
    let on = pauses_on work (tell replies.Ok ∷ []) in
    let all = work_pauses b.number b.state.settings spindle flood a.items.items in
    omega (arith, on, all, few)

accepted_pauses : (p : Parser) (s : Settings) (ws : List Word) (a : Accepted) → verdict p s ws ≡ Accept a → pauses_among a.items.items ≤ 1
accepted_pauses p s ws a e = subst (λ (b : Accepted). pauses_among b.items.items ≤ 1) (is_accepted p s ws a e).2 (items_pause p ws (stops p s ws))

jogging_once : (b : Before) (jog : JogMove) → PausesOnce (jogging b jog)
jogging_once b jog =
    let asked = move_asked (planned b.number b.state.settings jog.mv jog.rate) in
    let on = pauses_on (asking asked) (tell replies.Ok ∷ []) in
    let none = asking_pauses asked in
    omega (arith, on, none)

pub pauses_once : (runs : Bool) (b : Before) (kept : List ℕ) (o : Outcome) → Becomes runs b kept o → pauses o.work ≤ 1
pauses_once runs b kept o is =
    let each : HoldsByCause runs b kept PausesOnce = record {
      refuses = λ n other. omega arith;
      busy = λ cause. omega arith;
      locked = λ cause. omega arith;
      tells = λ next body same kind. telling_once (body ++ replies.Ok ∷ []);
      executes = λ ws a e. executed_once b a (accepted_pauses b.state.parser b.state.settings ws a e);
      jogs = λ ws jog e. jogging_once b jog;
      limits = λ beyond. omega arith;
    } in
    holds_by_cause runs b kept PausesOnce each o is
