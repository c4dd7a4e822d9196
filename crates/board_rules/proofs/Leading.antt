-- The moves that a line asks for join: the first begins at the position before the line, each other where the one before ends,
-- and the last ends at the position behind.
use Rattle.std.proofs.Common.{◌≡◌, ℕ, ◌==◌, List, [], ◌∷◌, ◌++◌, true, false, Bool, sym, refl, ap, ◌∙◌, arith, subst, Ok}
use Rattle.std.proofs.lemmas.Bool.Decides.{nat_tests}
use Rattle.units.specs.declared.Rate.{Rate}
use Rattle.units.specs.declared.Move.{Move as Way}
use Rattle.units.specs.declared.Steps3.{Steps3}
use Rattle.gcode_words.specs.declared.Word.{Word}
use Rattle.line_words.specs.Targets.{targets}
use Rattle.gcode_check.specs.Effects.{stops}
use Rattle.gcode_check.specs.Items.{items_of}
use Rattle.gcode_check.specs.Laws.{Join}
use Rattle.gcode_check.specs.Verdicts.{verdict}
use Rattle.gcode_check.specs.declared.Accept.{Accept as Accepted}
use Rattle.gcode_check.specs.declared.Item.{Item}
use Rattle.gcode_check.specs.declared.Item.TheVariants as items
use Rattle.gcode_check.specs.declared.Verdict.TheVariants.{Accept}
use Rattle.gcode_check.proofs.Causes.{is_accepted}
use Rattle.jog.proofs.Causes.{is_accepted as is_jog}
use Rattle.gcode_check.proofs.Joining.{line}
use Rattle.gcode_check.proofs.Moves.{after_steps}
use Rattle.modal_state.specs.declared.Parser.{Parser}
use Rattle.modal_state.specs.declared.SpindleMode.{SpindleMode}
use Rattle.modal_state.specs.declared.SpindleMode.TheVariants.{Off, Cw, Ccw}
use Rattle.settings.specs.declared.Settings.{Settings}
use Rattle.jog.specs.declared.JogMove.{JogMove}
use Rattle.jog.specs.Jogs.{jog_of}
use Rattle.status_report.specs.declared.Reply.{Reply}
use Rattle.status_report.specs.declared.Reply.TheVariants as replies
use Rattle.step_line.specs.Counting.{events_of}
use Rattle.step_line.specs.Places.{place_after}
use Rattle.step_line.specs.Asking.Asked.{a_move}
use Rattle.step_line.proofs.Sums.{at_start, at_end}
use Rattle.run_rules.specs.declared.State.{State}
use Rattle.run_rules.specs.Asks.{move_asked, planned, item_work, work_of}
use Rattle.run_rules.specs.Outcomes.{Before, Becomes, executed, told, jogging}
use Rattle.run_rules.specs.Work.{Task, Outcome, asking, telling}
use Rattle.run_rules.specs.Work.Task.{ask, tell}
use Rattle.run_rules.proofs.Each.{HoldsByCause, holds_by_cause}

-- the moves that tasks ask for join, from a place to another
abbrev pub TasksLead : Steps3 → List Task → Steps3 → Type 0
TasksLead from [] to = from ≡ to
TasksLead from (ask (a_move m) ∷ ts) to = (m.mv.from ≡ from) × TasksLead m.mv.to ts to
TasksLead from (_ ∷ ts) to = TasksLead from ts to

pub tasks_start : (a b : Steps3) (ts : List Task) (c : Steps3) → a ≡ b → TasksLead b ts c → TasksLead a ts c
tasks_start a b ts c e lead = subst (λ (p : Steps3). TasksLead p ts c) (sym e) lead

together : (a b c : Steps3) (xs ys : List Task) → TasksLead a xs b → TasksLead b ys c → TasksLead a (xs ++ ys) c
together a b c [] ys e on = tasks_start a b ys c e on
together a b c (ask (a_move m) ∷ ts) ys e on = (e.0, together m.mv.to b c ts ys e.1 on)
together a b c (_ ∷ ts) ys e on = together a b c ts ys e on

-- ---- the items of an accepted line

-- a move of no events stays
no_events : (mv : Way) → events_of mv ≡ 0 → mv.from ≡ mv.to
no_events mv none = sym (at_start mv) ∙ ap (place_after mv) (sym none) ∙ at_end mv

move_leads : (line : ℕ) (s : Settings) (mv : Way) (rate : Rate) (more : List Task) (from to : Steps3) → mv.from ≡ from → TasksLead mv.to more to → (b : Bool) → (events_of mv == 0) ≡ b
    → TasksLead from (asking (move_asked (planned line s mv rate)) ++ more) to
move_leads line s mv rate more from to begins on true is =
    let none : events_of mv ≡ 0 = grind (arith, nat_tests) in
    rw is (tasks_start from mv.to more to (sym begins ∙ no_events mv none) on)
move_leads line s mv rate more from to begins on false is = rw is (begins, on)

end_stays : (line : ℕ) (s : Settings) (spindle : SpindleMode) (flood : Bool) (from : Steps3) → TasksLead from (item_work line s spindle flood items.ProgramEnd) from
end_stays line s Off true from = refl
end_stays line s Off false from = refl
end_stays line s Cw true from = refl
end_stays line s Cw false from = refl
end_stays line s Ccw true from = refl
end_stays line s Ccw false from = refl

work_leads : (line : ℕ) (s : Settings) (spindle : SpindleMode) (flood : Bool) (all : List Item) (from to : Steps3) → Join from all to → TasksLead from (work_of line s spindle flood all) to
work_leads line s spindle flood [] from to e = e
work_leads line s spindle flood (items.Move mv rate ∷ more) from to e =
    move_leads line s mv rate (work_of line s spindle flood more) from to e.0 (work_leads line s spindle flood more mv.to to e.1) (events_of mv == 0) refl
work_leads line s spindle flood (items.Spindle mode speed ∷ more) from to e = work_leads line s mode flood more from to e
work_leads line s spindle flood (items.Coolant on ∷ more) from to e = work_leads line s spindle on more from to e
work_leads line s spindle flood (items.Dwell ms ∷ more) from to e = work_leads line s spindle flood more from to e
work_leads line s spindle flood (items.Pause ∷ more) from to e = work_leads line s spindle flood more from to e
work_leads line s spindle flood (items.ProgramEnd ∷ more) from to e =
    together from from to (item_work line s spindle flood items.ProgramEnd) (work_of line s Off false more) (end_stays line s spindle flood from) (work_leads line s Off false more from to e)

end : (all : List Item) (a b c : Steps3) → b ≡ c → Join a all b → Join a all c
end all a b c e joined = rw (sym e) joined

same : (at : Steps3) (a b : Accepted) → a ≡ b → Join at a.items.items a.next.pos_steps → Join at b.items.items b.next.pos_steps
same at a b e joined = rw (sym e) joined

verdict_leads : (p : Parser) (s : Settings) (ws : List Word) (a : Accepted) → verdict p s ws ≡ Accept a → Join p.pos_steps a.items.items a.next.pos_steps
verdict_leads p s ws a e =
    let is = (is_accepted p s ws a e).2 in
    same p.pos_steps _ a is
    (end (items_of p ws (stops p s ws)) p.pos_steps _ _ (sym (after_steps p ws (targets p ws) (stops p s ws))) (line p ws (stops p s ws)))

-- ---- what becomes of a line

abbrev pub Leads : Before → Outcome → Type 0
Leads b o = TasksLead b.state.parser.pos_steps o.work o.next.parser.pos_steps

tells_stay : (at : Steps3) (rs : List Reply) → TasksLead at (telling rs) at
tells_stay at [] = refl
tells_stay at (r ∷ rs) = tells_stay at rs

told_leads : (b : Before) (next : State) (body : List Reply) → next.parser ≡ b.state.parser → Leads b (told next body)
told_leads b next body same =
    let at = b.state.parser.pos_steps in
    subst (λ (p : Parser). TasksLead at (telling (body ++ replies.Ok ∷ [])) p.pos_steps) (sym same) (tells_stay at (body ++ replies.Ok ∷ []))

executed_leads : (b : Before) (ws : List Word) (a : Accepted) → verdict b.state.parser b.state.settings ws ≡ Accept a → Leads b (executed b a)
executed_leads b ws a e =
    let at = b.state.parser.pos_steps in
    let modal = b.state.parser.modal in
    let work = work_of b.number b.state.settings modal.spindle modal.flood a.items.items in
    let leads = work_leads b.number b.state.settings modal.spindle modal.flood a.items.items at a.next.pos_steps (verdict_leads b.state.parser b.state.settings ws a e) in
    together at a.next.pos_steps a.next.pos_steps work (tell replies.Ok ∷ []) leads refl

jog_leads : (b : Before) (ws : List Word) (jog : JogMove) → jog_of b.state.parser b.state.settings ws ≡ Ok jog → Leads b (jogging b jog)
jog_leads b ws jog e =
    let from : jog.mv.from ≡ b.state.parser.pos_steps = rw (← (is_jog b.state.parser b.state.settings ws jog e).1) refl in
    move_leads b.number b.state.settings jog.mv jog.rate (tell replies.Ok ∷ []) b.state.parser.pos_steps jog.mv.to from refl (events_of jog.mv == 0) refl

pub line_leads : (runs : Bool) (b : Before) (kept : List ℕ) (o : Outcome) → Becomes runs b kept o → Leads b o
line_leads runs b kept o is =
    let each : HoldsByCause runs b kept (Leads b) = record {
      refuses = λ n other. refl;
      busy = λ cause. refl;
      locked = λ cause. refl;
      tells = λ next body same kind. told_leads b next body same;
      executes = executed_leads b;
      jogs = jog_leads b;
      limits = λ beyond. refl;
    } in
    holds_by_cause runs b kept (Leads b) each o is
