-- Between two lines each line that was begun is answered; within a line all but that one, whose work still ends with
-- its answer, or which has raised an alarm.
use Rattle.std.proofs.Common.{◌≡◌, ℕ, ◌+◌, ◌⊎◌, inl, inr, List, [], ◌∷◌, ◌++◌, length, drop, reverse, true, false, Bool, cond, ◌&&◌, ◌||◌, sym, refl, ap, ◌∙◌, arith, subst, length-append}
use Rattle.std.proofs.lemmas.Grind.{flat_map-append}
use Rattle.std.proofs.lemmas.List.{reverse-append}
use Rattle.status_report.specs.Answering.{is_answer, answers_in}
use Rattle.status_report.specs.declared.Reply.{Reply}
use Rattle.status_report.specs.declared.Reply.TheVariants as replies
use Rattle.status_report.proofs.Answered.{answers_first, answers_on}
use Rattle.step_line.specs.declared.Piece.{Piece}
use Rattle.step_line.specs.Asking.Asked.{a_move, a_mark, a_rest}
use Rattle.planner_runs.specs.declared.Action.{Action}
use Rattle.planner_runs.specs.declared.Action.TheVariants.{Add, Take, Override, Mark, Rest, Clear, Reset}
use Rattle.run_rules.specs.Asks.{work_of, planned, move_asked}
use Rattle.run_rules.specs.Work.{Task, Outcome, is_limit, halting_work, told_by, tells, telling, asking, accepted_code, accepted_jog, has_moves}
use Rattle.run_rules.specs.Work.Task.{ask, tell, pause, normal, finish, halt}
use Rattle.run_rules.specs.Outcomes.{Before, Becomes, either}
use Rattle.run_rules.proofs.Answering.{one_answer}
use Rattle.run_rules.proofs.Each.{HoldsOfEach, holds_of_each}
use Rattle.board_journal.specs.Openings.{Opening, IsGreeting}
use Rattle.std.specs.List.{AllByRecursion}
use Rattle.board_journal.specs.Ports.{PortStep}
use Rattle.board_journal.specs.Ports.PortStep.{took, found_empty, found_closed, found_free, found_mark, answered, reported, no_reply_room, took_exec, took_ovr, published, no_piece_room, loaded, stored_stop, found_no_halt, found_halt}
use Rattle.board_journal.specs.Steps.{Step, Journal, has_limited, outcomes_of, answered_of, left_of, without_asks, before_of, open_of, closed_tells}
use Rattle.board_journal.specs.Steps.Step.{at_port, began, did, made_end, evened, paused, became, cut, halted, closing, turned}
use Rattle.board_rules.specs.Whole.{has_any_moved}
use Rattle.board_rules.proofs.Alarms.{opposite}
use Rattle.board_rules.proofs.Beginning.{caused, of_begun, begun_halts}
use Rattle.board_rules.specs.Conduct.{Conducted, IsNextTask, MayDo}

-- ---- whatever becomes of a line, its answer is the last that there is to do, or it raises an alarm

record HasLast (o : Outcome) : Type 0 where
  front : List Task
  work : o.work ≡ front ++ tell o.answer ∷ []

abbrev EndsWell : Outcome → Type 0
EndsWell o = HasLast o ⊎ (is_limit o.answer ≡ true)

telling_ends : (body : List Reply) (r : Reply) → telling (body ++ r ∷ []) ≡ telling body ++ tell r ∷ []
telling_ends body r = flat_map-append (λ (s : Reply). tell s ∷ []) body (r ∷ [])

ends_well : (runs : Bool) (b : Before) (kept : List ℕ) (o : Outcome) → Becomes runs b kept o → EndsWell o
ends_well runs b kept o is =
    let modal = b.state.parser.modal in
    let each : HoldsOfEach b EndsWell = record {
      refuses = λ n. inl (record { front = []; work = refl });
      tells = λ next body kind. inl (record { front = telling body; work = telling_ends body replies.Ok });
      executes = λ a. inl (record { front = work_of b.number b.state.settings modal.spindle modal.flood a.items.items; work = refl });
      jogs = λ jog. inl (record { front = asking (move_asked (planned b.number b.state.settings jog.mv jog.rate)); work = refl });
      limits = inr refl;
    } in
    holds_of_each runs b EndsWell each kept o is

-- ---- tasks with one answer, or with none

-- one answer is told, and nothing is to be done behind it
abbrev pub Ends : List Task → Type 0
Ends [] = ⊥
Ends (tell r ∷ ts) = either (is_answer r) (ts ≡ []) (Ends ts)
Ends (_ ∷ ts) = Ends ts

-- no answer is told
abbrev pub Silent : List Task → Type 0
Silent [] = Unit {0}
Silent (tell r ∷ ts) = (is_answer r ≡ false) × Silent ts
Silent (_ ∷ ts) = Silent ts

no_first : (b : Bool) (n : ℕ) → cond b 1 0 + n ≡ 0 → (b ≡ false) × (n ≡ 0)
no_first true n e = absurd (omega (arith, e))
no_first false n e = (refl, omega (arith, e))

by_answer : (r : Reply) (ts : List Task) → is_answer r ≡ false → Ends ts → either (is_answer r) (ts ≡ []) (Ends ts)
by_answer r ts none ends = subst (λ (b : Bool). either b (ts ≡ []) (Ends ts)) (sym none) ends

last_answer : (r : Reply) → is_answer r ≡ true → either (is_answer r) (◌≡◌ {A = List Task} [] []) ⊥
last_answer r is = subst (λ (b : Bool). either b (◌≡◌ {A = List Task} [] []) ⊥) (sym is) refl

one_end : (b : Bool) (ts : List Task) → (Ends ts → Ends (without_asks ts)) → either b (ts ≡ []) (Ends ts) → either b (without_asks ts ≡ []) (Ends (without_asks ts))
one_end true ts more is = ap without_asks is
one_end false ts more is = more is

-- a cut drops no answer
ends_dropped : (ts : List Task) → Ends ts → Ends (without_asks ts)
ends_dropped [] ends = absurd ends
ends_dropped (tell r ∷ ts) ends = one_end (is_answer r) ts (ends_dropped ts) ends
ends_dropped (_ ∷ ts) ends = ends_dropped ts ends

silent_dropped : (ts : List Task) → Silent ts → Silent (without_asks ts)
silent_dropped [] silent = tt
silent_dropped (tell r ∷ ts) silent = (silent.0, silent_dropped ts silent.1)
silent_dropped (_ ∷ ts) silent = silent_dropped ts silent

-- work that tells no answer, and then one
ends_behind : (ts : List Task) (r : Reply) → is_answer r ≡ true → answers_in (tells ts) ≡ 0 → Ends (ts ++ tell r ∷ [])
ends_behind [] r is none = last_answer r is
ends_behind (tell s ∷ ts) r is none =
    let n = no_first (is_answer s) (answers_in (tells ts)) (sym (answers_first s (tells ts)) ∙ none) in
    by_answer s (ts ++ tell r ∷ []) n.0 (ends_behind ts r is n.1)
ends_behind (_ ∷ ts) r is none = ends_behind ts r is none

has_last : (o : Outcome) → is_limit o.answer ≡ false → EndsWell o → HasLast o
has_last o none (inl last) = last
has_last o none (inr one) = opposite (is_limit o.answer) one none

work_ends : (runs : Bool) (b : Before) (kept : List ℕ) (o : Outcome) → Becomes runs b kept o → is_limit o.answer ≡ false → Ends o.work
work_ends runs b kept o is calm =
    let w = has_last o calm (ends_well runs b kept o is) in
    let once = one_answer runs b kept o is calm in
    let all : answers_in (tells o.work) ≡ answers_in once.0 + answers_in (o.answer ∷ []) = ap answers_in once.1 ∙ answers_on once.0 (o.answer ∷ []) in
    let split : answers_in (tells o.work) ≡ answers_in (tells w.front) + answers_in (o.answer ∷ []) =
    ap (λ (ts : List Task). answers_in (tells ts)) w.work
    ∙ ap answers_in (flat_map-append told_by w.front (tell o.answer ∷ []))
    ∙ answers_on (tells w.front) (o.answer ∷ []) in
    let none = once.2 in
    subst Ends (sym w.work) (ends_behind w.front o.answer once.3 (omega (arith, all, split, none)))

silent_told : (rs : List Reply) → AllByRecursion IsGreeting rs → Silent (telling rs)
silent_told [] all = tt
silent_told (r ∷ rs) all = (all.0.answers, silent_told rs all.1)

-- ---- the phases

-- the lines that were answered
abbrev pub done_at : PortStep → List Outcome → List Outcome → List Outcome
done_at (answered r) all os = cond (is_answer r) all os
done_at e all os = os

abbrev pub done_of : Journal → List Outcome
done_of [] = []
done_of (at_port e ∷ h) = done_at e (outcomes_of h) (done_of h)
done_of (_ ∷ h) = done_of h

pub record InLine (first : Opening) (h : Journal) : Type 0 where
  pub o : Outcome
  pub begun : outcomes_of h ≡ done_of h ++ o ∷ []
  pub left : Ends (left_of first h)
  pub going : closed_tells h ≡ []
  pub moved : o.settles ≡ true → has_any_moved (before_of first h) ≡ false

pub record Between (first : Opening) (h : Journal) : Type 0 where
  pub all : outcomes_of h ≡ done_of h
  pub left : Silent (left_of first h)

-- a line has raised an alarm, and has no answer
pub record Unanswered (first : Opening) (h : Journal) : Type 0 where
  pub o : Outcome
  pub begun : outcomes_of h ≡ done_of h ++ o ∷ []
  pub left : Silent (left_of first h)
  pub alarmed : has_limited h ≡ true
  pub settles : o.settles ≡ false

pub data Phase (first : Opening) (h : Journal) : Type 0 where
  in_line : InLine first h → Phase first h
  between : Between first h → Phase first h
  unanswered : Unanswered first h → Phase first h

-- ---- one task less

pop_ends : (ts : List Task) (t : Task) → ts ≡ t ∷ drop 1 ts → told_by t ≡ [] → Ends ts → Ends (drop 1 ts)
pop_ends ts (tell r) next none ends = absurd cc
pop_ends ts _ next none ends = subst Ends next ends

pop_silent : (ts : List Task) (t : Task) → ts ≡ t ∷ drop 1 ts → told_by t ≡ [] → Silent ts → Silent (drop 1 ts)
pop_silent ts (tell r) next none silent = absurd cc
pop_silent ts _ next none silent = subst Silent next silent

-- ---- a step

-- nothing is begun, answered or closed
keeps : (first : Opening) (h : Journal) (s : Step) → outcomes_of (s ∷ h) ≡ outcomes_of h → has_limited (s ∷ h) ≡ has_limited h → done_of (s ∷ h) ≡ done_of h → closed_tells (s ∷ h) ≡ closed_tells h
    → has_any_moved (before_of first (s ∷ h)) ≡ has_any_moved (before_of first h) → (Ends (left_of first h) → Ends (left_of first (s ∷ h))) → (Silent (left_of first h) → Silent (left_of first (s ∷ h))) → Phase first h → Phase first (s ∷ h)
keeps first h s outcomes alarms done closed before ends silent (in_line x) = in_line (record {
  o = x.o;
  begun = outcomes ∙ x.begun ∙ ap (λ (os : List Outcome). os ++ x.o ∷ []) (sym done);
  left = ends x.left;
  going = closed ∙ x.going;
  moved = λ is. before ∙ x.moved is;
})
keeps first h s outcomes alarms done closed before ends silent (between y) = between (record { all = outcomes ∙ y.all ∙ sym done; left = silent y.left })
keeps first h s outcomes alarms done closed before ends silent (unanswered z) = unanswered (record {
  o = z.o;
  begun = outcomes ∙ z.begun ∙ ap (λ (os : List Outcome). os ++ z.o ∷ []) (sym done);
  left = silent z.left;
  alarmed = alarms ∙ z.alarmed;
  settles = z.settles;
})

-- a task is done that tells nothing
pops : (first : Opening) (h : Journal) (s : Step) (t : Task) → IsNextTask first t h → told_by t ≡ [] → left_of first (s ∷ h) ≡ drop 1 (left_of first h)
    → outcomes_of (s ∷ h) ≡ outcomes_of h → has_limited (s ∷ h) ≡ has_limited h → done_of (s ∷ h) ≡ done_of h → closed_tells (s ∷ h) ≡ closed_tells h
    → has_any_moved (before_of first (s ∷ h)) ≡ has_any_moved (before_of first h) → Phase first h → Phase first (s ∷ h)
pops first h s t next none left outcomes alarms done closed before phase = keeps first h s outcomes alarms done closed before
    (λ ends. subst Ends (sym left) (pop_ends (left_of first h) t next none ends))
    (λ silent. subst Silent (sym left) (pop_silent (left_of first h) t next none silent))
    phase

-- something is done at the port that answers no line
polls : (first : Opening) (h : Journal) (e : PortStep) → left_of first (at_port e ∷ h) ≡ left_of first h → done_of (at_port e ∷ h) ≡ done_of h → Phase first h → Phase first (at_port e ∷ h)
polls first h e left done phase = keeps first h (at_port e) refl refl done refl refl (λ ends. subst Ends (sym left) ends) (λ silent. subst Silent (sym left) silent) phase

pub answer_ends : (first : Opening) (h : Journal) (r : Reply) → IsNextTask first (tell r) h → is_answer r ≡ true → Ends (left_of first h) → drop 1 (left_of first h) ≡ []
answer_ends first h r next is ends = subst (λ (b : Bool). either b (drop 1 (left_of first h) ≡ []) (Ends (drop 1 (left_of first h)))) is (subst Ends next ends)

reply_goes_on : (first : Opening) (h : Journal) (r : Reply) → IsNextTask first (tell r) h → is_answer r ≡ false → Ends (left_of first h) → Ends (drop 1 (left_of first h))
reply_goes_on first h r next is ends = subst (λ (b : Bool). either b (drop 1 (left_of first h) ≡ []) (Ends (drop 1 (left_of first h)))) is (subst Ends next ends)

-- no line is answered between two, nor behind an alarm
not_between : {A : Type 0} (first : Opening) (h : Journal) (r : Reply) → IsNextTask first (tell r) h → is_answer r ≡ true → Silent (left_of first h) → A
not_between first h r next is silent = absurd (let s = (subst Silent next silent).0 in let e = sym is ∙ s in cc)

pub answered_in_line : {A : Type 0} (first : Opening) (h : Journal) (r : Reply) → IsNextTask first (tell r) h → is_answer r ≡ true → Phase first h → (InLine first h → A) → A
answered_in_line first h r next is (in_line x) then = then x
answered_in_line first h r next is (between y) then = not_between first h r next is y.left
answered_in_line first h r next is (unanswered z) then = not_between first h r next is z.left

on_answer : (first : Opening) (h : Journal) (r : Reply) → IsNextTask first (tell r) h → (b : Bool) → is_answer r ≡ b → Phase first h → Phase first (at_port (answered r) ∷ h)
on_answer first h r next true is (in_line x) = between (record {
  all = sym (ap (λ (b : Bool). cond b (outcomes_of h) (done_of h)) is);
  left = subst Silent (sym (answer_ends first h r next is x.left)) tt;
})
on_answer first h r next false is (in_line x) = in_line (record {
  o = x.o;
  begun = x.begun ∙ ap (λ (os : List Outcome). os ++ x.o ∷ []) (sym (ap (λ (b : Bool). cond b (outcomes_of h) (done_of h)) is));
  left = reply_goes_on first h r next is x.left;
  going = x.going;
  moved = x.moved;
})
on_answer first h r next true is (between y) = not_between first h r next is y.left
on_answer first h r next true is (unanswered z) = not_between first h r next is z.left
on_answer first h r next false is (between y) = between (record {
  all = y.all ∙ sym (ap (λ (b : Bool). cond b (outcomes_of h) (done_of h)) is);
  left = (subst Silent next y.left).1;
})
on_answer first h r next false is (unanswered z) = unanswered (record {
  o = z.o;
  begun = z.begun ∙ ap (λ (os : List Outcome). os ++ z.o ∷ []) (sym (ap (λ (b : Bool). cond b (outcomes_of h) (done_of h)) is));
  left = (subst Silent next z.left).1;
  alarmed = z.alarmed;
  settles = z.settles;
})

-- a line is begun only between two lines
pub free_between : {A : Type 0} (first : Opening) (h : Journal) → left_of first h ≡ [] → has_limited h ≡ false → Phase first h → (Between first h → A) → A
free_between first h free calm (in_line x) then = absurd (subst Ends free x.left)
free_between first h free calm (between y) then = then y
free_between first h free calm (unanswered z) then = opposite (has_limited h) z.alarmed calm

-- and the run is being closed there, or behind an alarm
on_closing : (first : Opening) (h : Journal) → left_of first h ≡ [] → Phase first h → Phase first (closing ∷ h)
on_closing first h free (in_line x) = absurd (subst Ends free x.left)
on_closing first h free (between y) = between (record { all = y.all; left = (refl, tt) })
on_closing first h free (unanswered z) = unanswered (record { o = z.o; begun = z.begun; left = (refl, tt); alarmed = z.alarmed; settles = z.settles })

alarm_begins : (first : Opening) (h : Journal) (o : Outcome) → Conducted first (began o ∷ h) → is_limit o.answer ≡ true → Between first h → Phase first (began o ∷ h)
alarm_begins first h o c is y =
    let limits = begun_halts first h o c.0 is in
    let work : o.work ≡ halting_work = ap (λ (x : Outcome). x.work) limits in
    unanswered (record {
      o = o;
      begun = ap (λ (os : List Outcome). os ++ o ∷ []) y.all;
      left = subst Silent (sym work) (refl, (refl, tt));
      alarmed = is;
      settles = ap (λ (x : Outcome). x.settles) limits;
    })

line_begins : (first : Opening) (h : Journal) (o : Outcome) → closed_tells h ≡ [] → Ends o.work → Between first h → Phase first (began o ∷ h)
line_begins first h o going ends y = in_line (record {
  o = o;
  begun = ap (λ (os : List Outcome). os ++ o ∷ []) y.all;
  left = ends;
  going = going;
  moved = λ is. ap (λ (b : Bool). cond b false (accepted_code o.kind && has_moves o.work || (before_of first h).moved) || cond b false (accepted_jog o.kind && has_moves o.work || (before_of first h).jog_moved)) is;
})

on_began : (first : Opening) (h : Journal) (o : Outcome) → Conducted first (began o ∷ h) → (one : Bool) → is_limit o.answer ≡ one → Between first h → Phase first (began o ∷ h)
on_began first h o c true is y = alarm_begins first h o c is y
on_began first h o c false is y = line_begins first h o c.0.going (of_begun first h o (λ (x : Outcome). is_limit x.answer ≡ false → Ends x.work) c.0 (λ e. refl) (work_ends true (caused first h) (open_of h)) is) y

on_did : (first : Opening) (h : Journal) (a : Action) (ps : List Piece) → MayDo first a h → Phase first h → Phase first (did a ps ∷ h)
on_did first h (Add m) ps may phase = pops first h (did (Add m) ps) (ask (a_move m)) may refl refl refl refl refl refl refl phase
on_did first h (Mark m) ps may phase = pops first h (did (Mark m) ps) (ask (a_mark m)) may.next refl refl refl refl refl refl refl phase
on_did first h Rest ps may phase = pops first h (did Rest ps) (ask a_rest) may.next refl refl refl refl refl refl refl phase
on_did first h (Take mode) ps may phase = keeps first h (did (Take mode) ps) refl refl refl refl refl (λ x. x) (λ x. x) phase
on_did first h (Override o) ps may phase = keeps first h (did (Override o) ps) refl refl refl refl refl (λ x. x) (λ x. x) phase
on_did first h Clear ps may phase = absurd may
on_did first h Reset ps may phase = absurd may

pub phase_is : (first : Opening) (h : Journal) → Conducted first h → Phase first h
phase_is first [] c = between (record { all = refl; left = silent_told first.tells c.greets })
phase_is first (at_port (took b) ∷ h) c = polls first h (took b) refl refl (phase_is first h c.1)
phase_is first (at_port found_empty ∷ h) c = polls first h found_empty refl refl (phase_is first h c.1)
phase_is first (at_port found_closed ∷ h) c = polls first h found_closed refl refl (phase_is first h c.1)
phase_is first (at_port (found_free n) ∷ h) c = polls first h (found_free n) refl refl (phase_is first h c.1)
phase_is first (at_port (found_mark number bytes) ∷ h) c = polls first h (found_mark number bytes) refl refl (phase_is first h c.1)
phase_is first (at_port stored_stop ∷ h) c = absurd c.0
phase_is first (at_port found_no_halt ∷ h) c = absurd c.0
phase_is first (at_port (found_halt done) ∷ h) c = absurd c.0
phase_is first (at_port (answered r) ∷ h) c = on_answer first h r c.0.next (is_answer r) refl (phase_is first h c.1)
phase_is first (at_port (reported r) ∷ h) c = polls first h (reported r) refl refl (phase_is first h c.1)
phase_is first (at_port no_reply_room ∷ h) c = polls first h no_reply_room refl refl (phase_is first h c.1)
phase_is first (at_port (took_exec word) ∷ h) c = polls first h (took_exec word) refl refl (phase_is first h c.1)
phase_is first (at_port (took_ovr word) ∷ h) c = polls first h (took_ovr word) refl refl (phase_is first h c.1)
phase_is first (at_port (published p) ∷ h) c = polls first h (published p) refl refl (phase_is first h c.1)
phase_is first (at_port (no_piece_room done) ∷ h) c = polls first h (no_piece_room done) refl refl (phase_is first h c.1)
phase_is first (at_port (loaded done) ∷ h) c = polls first h (loaded done) refl refl (phase_is first h c.1)
phase_is first (began o ∷ h) c =
    free_between first h c.0.free c.0.calm (phase_is first h c.1) (on_began first h o c (is_limit o.answer) refl)
phase_is first (did a ps ∷ h) c = on_did first h a ps c.0.0 (phase_is first h c.1)
phase_is first (made_end ∷ h) c = pops first h made_end finish c.0.next refl refl refl refl refl refl refl (phase_is first h c.1)
phase_is first (evened ∷ h) c = pops first h evened normal c.0.rests.next refl refl refl refl refl refl refl (phase_is first h c.1)
phase_is first (paused ∷ h) c = pops first h paused pause c.0.rests.next refl refl refl refl refl refl refl (phase_is first h c.1)
phase_is first (became call m ∷ h) c = keeps first h (became call m) refl refl refl refl refl (λ x. x) (λ x. x) (phase_is first h c.1)
phase_is first (cut k ∷ h) c = keeps first h (cut k) refl refl refl refl refl (ends_dropped (left_of first h)) (silent_dropped (left_of first h)) (phase_is first h c.1)
phase_is first (halted ∷ h) c = pops first h halted halt c.0.next refl refl refl refl refl refl refl (phase_is first h c.1)
phase_is first (closing ∷ h) c = on_closing first h c.0.free (phase_is first h c.1)
phase_is first (turned t ∷ h) c = keeps first h (turned t) refl refl refl refl refl (λ x. x) (λ x. x) (phase_is first h c.1)

-- ---- the lines that were answered are as many as the answers

answers_push : (rs : List Reply) (r : Reply) (b : Bool) → is_answer r ≡ b → answers_in (rs ++ r ∷ []) ≡ answers_in rs + cond b 1 0
answers_push rs r b is =
    let e = answers_on rs (r ∷ []) in
    let f = answers_first r [] in
    let t = ap (λ (c : Bool). cond {A = ℕ} c 1 0) is in
    omega (arith, e, f, t)

on_count : (first : Opening) (h : Journal) (r : Reply) → IsNextTask first (tell r) h → (b : Bool) → is_answer r ≡ b → Phase first h → length (done_of h) ≡ answers_in (answered_of h)
    → length (done_of (at_port (answered r) ∷ h)) ≡ answers_in (answered_of (at_port (answered r) ∷ h))
on_count first h r next true is (in_line x) e =
    ap (λ (b : Bool). length (cond b (outcomes_of h) (done_of h))) is
    ∙ ap (λ (os : List Outcome). length os) x.begun
    ∙ length-append (done_of h) (x.o ∷ [])
    ∙ ap (λ (n : ℕ). n + 1) e
    ∙ sym (answers_push (answered_of h) r true is)
on_count first h r next true is (between y) e = not_between first h r next is y.left
on_count first h r next true is (unanswered z) e = not_between first h r next is z.left
on_count first h r next false is phase e =
    let push = answers_push (answered_of h) r false is in
    ap (λ (b : Bool). length (cond b (outcomes_of h) (done_of h))) is ∙ (omega (arith, e, push))

pub count_is : (first : Opening) (h : Journal) → Conducted first h → length (done_of h) ≡ answers_in (answered_of h)
count_is first [] c = refl
count_is first (at_port (answered r) ∷ h) c = on_count first h r c.0.next (is_answer r) refl (phase_is first h c.1) (count_is first h c.1)
count_is first (at_port (reported r) ∷ h) c =
    let e = count_is first h c.1 in let push = answers_push (answered_of h) (replies.Report r) false refl in omega (arith, e, push)
count_is first (_ ∷ h) c = count_is first h c.1

pub answers_reverse : (rs : List Reply) → answers_in (reverse rs) ≡ answers_in rs
answers_reverse [] = refl
answers_reverse (r ∷ rs) =
    let e = ap answers_in (reverse-append (r ∷ []) rs) in
    let f = answers_on (reverse rs) (r ∷ []) in
    let g = answers_on (r ∷ []) rs in
    let m = answers_reverse rs in
    omega (arith, e, f, g, m)
