-- Where a line has raised an alarm: the machine is to be halted, or was, and then it is only told, and the run is closed.
use Rattle.std.proofs.Common.{◌≡◌, inl, inr, Bool, true, false, ℕ, List, [], ◌∷◌, drop, refl, sym, ap, ◌∙◌, subst, ◌⊎◌, Some}
use Rattle.code_table.specs.declared.flags.Exec.{Exec}
use Rattle.feed_hold.specs.declared.Motion.{Motion}
use Rattle.feed_hold.specs.declared.Motion.TheVariants as motions
use Rattle.feed_hold.specs.Motions.{Call, after}
use Rattle.feed_hold.specs.Motions.Call.{on_exec, on_start, on_limit, on_unlock}
use Rattle.feed_hold.proofs.Reaching.{StaysOrReaches, reached}
use Rattle.overrides.specs.declared.Overrides.{Overrides}
use Rattle.plan_rules.specs.Plans.{Planned}
use Rattle.planner_runs.specs.declared.Action.{Action}
use Rattle.planner_runs.specs.declared.Action.TheVariants.{Add, Take, Override, Mark, Rest, Clear, Reset}
use Rattle.planner_runs.specs.Runs.{IsAtRest, normal_overrides}
use Rattle.board_journal.specs.Openings.{Opening}
use Rattle.run_rules.specs.Work.{Task, Outcome, is_limit, halting_work, asks, telling}
use Rattle.run_rules.specs.Work.Task.{ask, tell, pause, normal, finish, halt}
use Rattle.status_report.specs.declared.Reply.{Reply}
use Rattle.step_line.specs.Asking.Asked.{a_move, a_mark, a_rest}
use Rattle.step_line.specs.declared.Piece.{Piece}
use Rattle.board_journal.specs.Ports.PortStep.{answered}
use Rattle.board_journal.specs.Steps.{Step, Journal, has_limited, plan_of, motion_of, left_of, before_of, open_of, without_asks}
use Rattle.board_journal.specs.Steps.Step.{at_port, began, did, made_end, evened, paused, became, cut, halted, closing, turned}
use Rattle.board_journal.specs.Steps as steps
use Rattle.board_rules.specs.Cuts.{part_plan, has_halted}
use Rattle.board_rules.specs.Turns.{halts_next, has_blocks, is_limited, machine_in}
use Rattle.board_rules.specs.Conduct.{Conducted, Gives, IsNextTask, MayDo, MayHappen, MayStart, MayObey, MayOpen, MayUnlock, IsLocked}
use Rattle.board_rules.proofs.Opening.{opens_still}
use Rattle.board_rules.proofs.Tasks.{none_taken, head_is}
use Rattle.board_rules.proofs.Beginning.{begun_halts}
use Rattle.board_rules.proofs.Locking.{stays_alarm}
use Rattle.run_rules.specs.Finding.{Found}
use Rattle.run_rules.proofs.Finding.{becomes_locked}
use Rattle.run_rules.proofs.Locking.{IsStill, locked_still}
use Rattle.board_rules.proofs.Truths.{by_not}
pub use Rattle.board_rules.proofs.Truths.{opposite}

-- the journal tells whether a line has raised an alarm
pub alarmed_is : (first : Opening) (h : Journal) → (before_of first h).alarmed ≡ has_limited h
alarmed_is first [] = refl
alarmed_is first (began o ∷ h) = refl
alarmed_is first (_ ∷ h) = alarmed_is first h

-- ---- tasks that only tell, or end the run

abbrev pub only_tells : List Task → Bool
only_tells [] = true
only_tells (tell r ∷ ts) = only_tells ts
only_tells (finish ∷ ts) = only_tells ts
only_tells _ = false

tells_tail : (ts : List Task) → only_tells ts ≡ true → only_tells (drop 1 ts) ≡ true
tells_tail [] is = is
tells_tail (tell r ∷ ts) is = is
tells_tail (finish ∷ ts) is = is
tells_tail (_ ∷ ts) is = absurd cc

no_asks : (ts : List Task) → only_tells ts ≡ true → asks ts ≡ []
no_asks [] is = refl
no_asks (tell r ∷ ts) is = no_asks ts is
no_asks (finish ∷ ts) is = no_asks ts is
no_asks (_ ∷ ts) is = absurd cc

-- another task is not next there
not_told : {A : Type 0} (ts : List Task) (t : Task) → ts ≡ t ∷ drop 1 ts → only_tells (t ∷ drop 1 ts) ≡ false → only_tells ts ≡ true → A
not_told ts t next none is = opposite (only_tells ts) is (ap only_tells next ∙ none)

-- nor where the machine is to be halted
not_halt : {A : Type 0} (ts : List Task) (t : Task) → ts ≡ t ∷ drop 1 ts → (t ≡ halt → ⊥) → ts ≡ halting_work → A
not_halt ts t next other is = absurd (other (head_is ts t halt _ next is))

-- ---- how far it is

-- No line has raised an alarm; one has, and the machine is to be halted; it was, and stands with nothing to run; or it was locked from
-- the beginning, and stands so.
pub data Stage (first : Opening) (h : Journal) : Type 0 where
  calm : has_limited h ≡ false → has_halted h ≡ false → is_limited (motion_of first h) ≡ false → Stage first h
  to_halt : has_limited h ≡ true → has_halted h ≡ false → left_of first h ≡ halting_work → Stage first h
  was_halted : has_limited h ≡ true → has_halted h ≡ true → only_tells (left_of first h) ≡ true → IsAtRest (plan_of h) → motion_of first h ≡ motions.Alarm → Stage first h
  locked : has_limited h ≡ false → has_halted h ≡ false → first.motion ≡ motions.Alarm → only_tells (left_of first h) ≡ true → IsAtRest (plan_of h) → motion_of first h ≡ motions.Alarm → Stage first h

-- a step that leaves what is left, the plan and the motion
on_same : (first : Opening) (h : Journal) (s : Step) → has_limited (s ∷ h) ≡ has_limited h → has_halted (s ∷ h) ≡ has_halted h → left_of first (s ∷ h) ≡ left_of first h → plan_of (s ∷ h) ≡ plan_of h → motion_of first (s ∷ h) ≡ motion_of first h
    → Stage first h → Stage first (s ∷ h)
on_same first h s alarmed was left plan motion (calm a b m) = calm (alarmed ∙ a) (was ∙ b) (ap is_limited motion ∙ m)
on_same first h s alarmed was left plan motion (to_halt a b l) = to_halt (alarmed ∙ a) (was ∙ b) (left ∙ l)
on_same first h s alarmed was left plan motion (was_halted a b l p m) = was_halted (alarmed ∙ a) (was ∙ b) (ap only_tells left ∙ l) (subst IsAtRest (sym plan) p) (motion ∙ m)
on_same first h s alarmed was left plan motion (locked a b f l p m) = locked (alarmed ∙ a) (was ∙ b) f (ap only_tells left ∙ l) (subst IsAtRest (sym plan) p) (motion ∙ m)

-- a task is done, other than to halt the machine
on_task : (first : Opening) (h : Journal) (s : Step) (t : Task) → IsNextTask first t h → (t ≡ halt → ⊥) → has_limited (s ∷ h) ≡ has_limited h → has_halted (s ∷ h) ≡ has_halted h → left_of first (s ∷ h) ≡ drop 1 (left_of first h) → plan_of (s ∷ h) ≡ plan_of h
    → motion_of first (s ∷ h) ≡ motion_of first h → Stage first h → Stage first (s ∷ h)
on_task first h s t next other alarmed was left plan motion (calm a b m) = calm (alarmed ∙ a) (was ∙ b) (ap is_limited motion ∙ m)
on_task first h s t next other alarmed was left plan motion (to_halt a b l) = not_halt (left_of first h) t next other l
on_task first h s t next other alarmed was left plan motion (was_halted a b l p m) =
    was_halted (alarmed ∙ a) (was ∙ b) (ap only_tells left ∙ tells_tail (left_of first h) l) (subst IsAtRest (sym plan) p) (motion ∙ m)
on_task first h s t next other alarmed was left plan motion (locked a b f l p m) =
    locked (alarmed ∙ a) (was ∙ b) f (ap only_tells left ∙ tells_tail (left_of first h) l) (subst IsAtRest (sym plan) p) (motion ∙ m)

-- one that is only done where no line has raised an alarm
on_calm : (first : Opening) (h : Journal) (s : Step) (t : Task) → IsNextTask first t h → (t ≡ halt → ⊥) → only_tells (t ∷ drop 1 (left_of first h)) ≡ false → has_limited (s ∷ h) ≡ has_limited h → has_halted (s ∷ h) ≡ has_halted h
    → (is_limited (motion_of first h) ≡ false → is_limited (motion_of first (s ∷ h)) ≡ false) → Stage first h → Stage first (s ∷ h)
on_calm first h s t next other none alarmed was motion (calm a b m) = calm (alarmed ∙ a) (was ∙ b) (motion m)
on_calm first h s t next other none alarmed was motion (to_halt a b l) = not_halt (left_of first h) t next other l
on_calm first h s t next other none alarmed was motion (was_halted a b l p m) = not_told (left_of first h) t next none l
on_calm first h s t next other none alarmed was motion (locked a b f l p m) = not_told (left_of first h) t next none l

on_did : (first : Opening) (h : Journal) (a : Action) (ps : List Piece) → MayDo first a h → Gives first.blocks a ps (plan_of h) → Stage first h → Stage first (did a ps ∷ h)
on_did first h (Add m) ps may gives st = on_calm first h (did (Add m) ps) (ask (a_move m)) may (λ e. absurd cc) refl refl refl (λ x. x) st
on_did first h (Mark m) ps may gives st = on_calm first h (did (Mark m) ps) (ask (a_mark m)) may.next (λ e. absurd cc) refl refl refl (λ x. x) st
on_did first h Rest ps may gives st = on_calm first h (did Rest ps) (ask a_rest) may.next (λ e. absurd cc) refl refl refl (λ x. x) st
on_did first h (Take mode) ps may gives (calm a b m) = calm a b m
on_did first h (Take mode) ps may gives (to_halt a b l) = to_halt a b l
on_did first h (Take mode) ps may gives (was_halted a b l p m) = absurd (none_taken first.blocks (plan_of h) mode ps (steps.plan_after (Take mode) ps (plan_of h)) p.blocks gives)
on_did first h (Take mode) ps may gives (locked a b f l p m) = absurd (none_taken first.blocks (plan_of h) mode ps (steps.plan_after (Take mode) ps (plan_of h)) p.blocks gives)
on_did first h (Override o) ps may gives (calm a b m) = calm a b m
on_did first h (Override o) ps may gives (to_halt a b l) = to_halt a b l
on_did first h (Override o) ps may gives (was_halted a b l p m) = was_halted a b l (record { blocks = p.blocks; speed = p.speed }) m
on_did first h (Override o) ps may gives (locked a b f l p m) = locked a b f l (record { blocks = p.blocks; speed = p.speed }) m
on_did first h Clear ps may gives st = absurd may
on_did first h Reset ps may gives st = absurd may

-- a cut drops no reply
only_told : (ts : List Task) → only_tells ts ≡ true → only_tells (without_asks ts) ≡ true
only_told [] is = refl
only_told (tell r ∷ ts) is = only_told ts is
only_told (finish ∷ ts) is = only_told ts is
only_told (_ ∷ ts) is = absurd cc

all_told : (rs : List Reply) → only_tells (telling rs) ≡ true
all_told [] = refl
all_told (r ∷ rs) = all_told rs

-- a line that finds the machine in alarm is only told
pub still_locked : (first : Opening) (h : Journal) (o : Outcome) → Conducted first (began o ∷ h) → motion_of first h ≡ motions.Alarm → IsStill (before_of first h) o
still_locked first h o c alarm =
    locked_still (before_of first h) (open_of h) o (becomes_locked (before_of first h) (open_of h) o (subst (λ (m : Motion). Found (machine_in m) (before_of first h) (open_of h) o) alarm c.0.becomes))

-- no line before has raised an alarm, and this one does, or it does not
on_began : (first : Opening) (h : Journal) (o : Outcome) → Conducted first (began o ∷ h) → (one : Bool) → is_limit o.answer ≡ one → Stage first h → Stage first (began o ∷ h)
on_began first h o c true is (calm a b m) =
    to_halt is b (ap (λ (x : Outcome). x.work) (begun_halts first h o c.0 is))
on_began first h o c false is (calm a b m) = calm is b m
on_began first h o c one is (to_halt a b l) = opposite (has_limited h) a c.0.calm
on_began first h o c one is (was_halted a b l p m) = opposite (has_limited h) a c.0.calm
on_began first h o c one is (locked a b f l p m) =
    let s = still_locked first h o c m in
    locked s.calm b f (ap only_tells s.work ∙ all_told s.said) p m

-- a limit is met only where a line has raised an alarm
no_limit : {A : Type 0} (first : Opening) (h : Journal) (call : Call) → MayHappen first call h → has_limited h ≡ false → call ≡ on_limit → A
no_limit first h call may none is = let limits : MayHappen first on_limit h = subst (λ (x : Call). MayHappen first x h) is may in opposite (has_limited h) limits.alarmed none

unlimited : (first : Opening) (h : Journal) (call : Call) (m : Motion) → MayHappen first call h → has_limited h ≡ false → is_limited (motion_of first h) ≡ false → StaysOrReaches m call (motion_of first h) → is_limited m ≡ false
unlimited first h call m may none was (inl same) = ap is_limited same ∙ was
unlimited first h call motions.Stopping may none was (inr (runs, is)) = no_limit first h call may none is
unlimited first h call motions.Alarm may none was (inr (inl (idle, is))) = no_limit first h call may none is
unlimited first h call motions.Alarm may none was (inr (inr (stops, is))) = absurd (let e = sym (ap is_limited stops) ∙ was in cc)
unlimited first h call _ may none was (inr how) = refl

on_call : (first : Opening) (h : Journal) (call : Call) (m : Motion) → (call ≡ on_unlock → ⊥) → MayHappen first call h → StaysOrReaches m call (motion_of first h) → Stage first h → Stage first (became call m ∷ h)
on_call first h call m other may how (calm a b was) = calm a b (unlimited first h call m may a was how)
on_call first h call m other may how (to_halt a b l) = to_halt a b l
on_call first h call m other may how (was_halted a b l p was) = was_halted a b l p (stays_alarm call (motion_of first h) m other was how)
on_call first h call m other may how (locked a b f l p was) = locked a b f l p (stays_alarm call (motion_of first h) m other was how)

-- an unlock
unlock_leads : (was m : Motion) → after on_unlock was ≡ Some m → (was ≡ motions.Alarm) × (is_limited m ≡ false)
unlock_leads motions.Alarm m e = (refl, let f : motions.Idle ≡ m = cc in sym (ap is_limited f))
unlock_leads was m e = absurd cc

on_unlocked : (first : Opening) (h : Journal) (m : Motion) → MayUnlock first h → after on_unlock (motion_of first h) ≡ Some m → Stage first h → Stage first (became on_unlock m ∷ h)
on_unlocked first h m may then (calm a b was) = calm a b (unlock_leads (motion_of first h) m then).1
on_unlocked first h m may then (to_halt a b l) = opposite (has_limited h) a may.calm
on_unlocked first h m may then (was_halted a b l p was) = opposite (has_limited h) a may.calm
on_unlocked first h m may then (locked a b f l p was) = calm a b (unlock_leads (motion_of first h) m then).1

on_halt : (first : Opening) (h : Journal) → IsNextTask first halt h → motion_of first h ≡ motions.Alarm → Stage first h → Stage first (halted ∷ h)
on_halt first h next alarm (calm a b m) = absurd (let e = sym (ap is_limited alarm) ∙ m in cc)
on_halt first h next alarm (to_halt a b l) = was_halted a refl (ap (λ (ts : List Task). only_tells (drop 1 ts)) l) (record { blocks = refl; speed = refl }) alarm
on_halt first h next alarm (was_halted a b l p m) = not_told (left_of first h) halt next refl l
on_halt first h next alarm (locked a b f l p m) = not_told (left_of first h) halt next refl l

on_cut : (first : Opening) (h : Journal) (k : ℕ) → has_limited h ≡ false → Stage first h → Stage first (cut k ∷ h)
on_cut first h k none (calm a b m) = calm a b m
on_cut first h k none (to_halt a b l) = opposite (has_limited h) a none
on_cut first h k none (was_halted a b l p m) = opposite (has_limited h) a none
on_cut first h k none (locked a b f l p m) = locked a b f (only_told (left_of first h) l) (record { blocks = refl; speed = refl }) m

on_closing : (first : Opening) (h : Journal) → left_of first h ≡ [] → Stage first h → Stage first (closing ∷ h)
on_closing first h free (calm a b m) = calm a b m
on_closing first h free (to_halt a b l) = absurd (let e = sym free ∙ l in cc)
on_closing first h free (was_halted a b l p m) = was_halted a b refl p m
on_closing first h free (locked a b f l p m) = locked a b f refl p m

-- what greets is told alone
only_greets : (rs : List Reply) → only_tells (telling rs) ≡ true
only_greets [] = refl
only_greets (r ∷ rs) = only_greets rs

opens_stage : (first : Opening) → MayOpen first → (m : Motion) → first.motion ≡ m → Stage first []
opens_stage first opens motions.Idle is = calm refl refl (ap is_limited is)
opens_stage first opens motions.Alarm is = locked refl refl is (only_greets first.tells) (record { blocks = refl; speed = refl }) is
opens_stage first opens m is = opens_still first m opens is refl

pub stage_is : (first : Opening) (h : Journal) → Conducted first h → Stage first h
stage_is first [] c = opens_stage first c first.motion refl
stage_is first (at_port (answered r) ∷ h) c = on_task first h (at_port (answered r)) (tell r) c.0.next (λ e. absurd cc) refl refl refl refl refl (stage_is first h c.1)
stage_is first (at_port e ∷ h) c = on_same first h (at_port e) refl refl refl refl refl (stage_is first h c.1)
stage_is first (began o ∷ h) c = on_began first h o c (is_limit o.answer) refl (stage_is first h c.1)
stage_is first (did a ps ∷ h) c = on_did first h a ps c.0.0 c.0.1 (stage_is first h c.1)
stage_is first (made_end ∷ h) c = on_task first h made_end finish c.0.next (λ e. absurd cc) refl refl refl refl refl (stage_is first h c.1)
stage_is first (evened ∷ h) c = on_calm first h evened normal c.0.rests.next (λ e. absurd cc) refl refl refl (λ x. x) (stage_is first h c.1)
stage_is first (paused ∷ h) c = on_calm first h paused pause c.0.rests.next (λ e. absurd cc) refl refl refl (λ x. refl) (stage_is first h c.1)
stage_is first (became on_unlock m ∷ h) c = on_unlocked first h m c.0.1 c.0.0 (stage_is first h c.1)
stage_is first (became call m ∷ h) c = on_call first h call m (λ e. absurd cc) c.0.1 (reached call (motion_of first h) m c.0.0) (stage_is first h c.1)
stage_is first (cut k ∷ h) c = on_cut first h k c.0.calm (stage_is first h c.1)
stage_is first (halted ∷ h) c = on_halt first h c.0.next c.0.alarm (stage_is first h c.1)
stage_is first (closing ∷ h) c = on_closing first h c.0.free (stage_is first h c.1)
stage_is first (turned t ∷ h) c = on_same first h (turned t) refl refl refl refl refl (stage_is first h c.1)

-- ---- what that tells

-- the machine slows down for a limit, or stands in alarm, only where a line has raised one
limits_at : (first : Opening) (h : Journal) → Stage first h → is_limited (motion_of first h) ≡ true → (has_limited h ≡ true) ⊎ IsLocked first h
limits_at first h (calm a b m) is = opposite (is_limited (motion_of first h)) is m
limits_at first h (to_halt a b l) is = inl a
limits_at first h (was_halted a b l p m) is = inl a
limits_at first h (locked a b f l p m) is = inr (f, m)

pub limited_alarmed : (first : Opening) (h : Journal) → Conducted first h → is_limited (motion_of first h) ≡ true → (has_limited h ≡ true) ⊎ IsLocked first h
limited_alarmed first h c is = limits_at first h (stage_is first h c) is

calm_at : (first : Opening) (h : Journal) → Stage first h → has_limited h ≡ false → (has_halted h ≡ false) × ((is_limited (motion_of first h) ≡ false) ⊎ IsLocked first h)
calm_at first h (calm a b m) none = (b, inl m)
calm_at first h (to_halt a b l) none = opposite (has_limited h) a none
calm_at first h (was_halted a b l p m) none = opposite (has_limited h) a none
calm_at first h (locked a b f l p m) none = (b, inr (f, m))

pub unhalted : (first : Opening) (h : Journal) → Conducted first h → has_limited h ≡ false → has_halted h ≡ false
unhalted first h c none = (calm_at first h (stage_is first h c) none).0

pub unlimited_calm : (first : Opening) (h : Journal) → Conducted first h → has_limited h ≡ false → (is_limited (motion_of first h) ≡ false) ⊎ IsLocked first h
unlimited_calm first h c none = (calm_at first h (stage_is first h c) none).1

halted_at : (first : Opening) (h : Journal) → Stage first h → has_halted h ≡ true → (has_limited h ≡ true) × (only_tells (left_of first h) ≡ true) × IsAtRest (plan_of h) × (motion_of first h ≡ motions.Alarm)
halted_at first h (calm a b m) was = opposite (has_halted h) was b
halted_at first h (to_halt a b l) was = opposite (has_halted h) was b
halted_at first h (was_halted a b l p m) was = (a, l, p, m)
halted_at first h (locked a b f l p m) was = opposite (has_halted h) was b

pub halted_alarmed : (first : Opening) (h : Journal) → Conducted first h → has_halted h ≡ true → has_limited h ≡ true
halted_alarmed first h c was = (halted_at first h (stage_is first h c) was).0

pub halted_stands : (first : Opening) (h : Journal) → Conducted first h → has_halted h ≡ true → IsAtRest (plan_of h) × (motion_of first h ≡ motions.Alarm)
halted_stands first h c was = let is = halted_at first h (stage_is first h c) was in (is.2, is.3)

-- behind an alarm nothing is left to ask
asks_at : (first : Opening) (h : Journal) → Stage first h → has_limited h ≡ true → asks (left_of first h) ≡ []
asks_at first h (calm a b m) one = opposite (has_limited h) one a
asks_at first h (to_halt a b l) one = ap asks l
asks_at first h (was_halted a b l p m) one = no_asks (left_of first h) l
asks_at first h (locked a b f l p m) one = opposite (has_limited h) one a

pub none_asked : (first : Opening) (h : Journal) → Conducted first h → has_limited h ≡ true → asks (left_of first h) ≡ []
none_asked first h c one = asks_at first h (stage_is first h c) one

-- where nothing is left to do behind one, the machine was halted
free_at : (first : Opening) (h : Journal) → Stage first h → has_limited h ≡ true → left_of first h ≡ [] → has_halted h ≡ true
free_at first h (calm a b m) one free = opposite (has_limited h) one a
free_at first h (to_halt a b l) one free = absurd (let e = sym free ∙ l in cc)
free_at first h (was_halted a b l p m) one free = b
free_at first h (locked a b f l p m) one free = opposite (has_limited h) one a

pub free_halted : (first : Opening) (h : Journal) → Conducted first h → has_limited h ≡ true → left_of first h ≡ [] → has_halted h ≡ true
free_halted first h c one free = free_at first h (stage_is first h c) one free

-- and where a reply is next
told_at : (first : Opening) (h : Journal) (r : Reply) → Stage first h → has_limited h ≡ true → IsNextTask first (tell r) h → has_halted h ≡ true
told_at first h r (calm a b m) one next = opposite (has_limited h) one a
told_at first h r (to_halt a b l) one next = not_halt (left_of first h) (tell r) next (λ e. absurd cc) l
told_at first h r (was_halted a b l p m) one next = b
told_at first h r (locked a b f l p m) one next = opposite (has_limited h) one a

pub told_halted : (first : Opening) (h : Journal) (r : Reply) → Conducted first h → has_limited h ≡ true → IsNextTask first (tell r) h → has_halted h ≡ true
told_halted first h r c one next = told_at first h r (stage_is first h c) one next

-- behind an alarm no queued block starts
halt_next : (ts : List Task) → ts ≡ halting_work → halts_next ts ≡ true
halt_next ts is = ap halts_next is

starts_at : (first : Opening) (h : Journal) (jog : Bool) → Stage first h → MayStart first jog h → has_limited h ≡ false
starts_at first h jog (calm a b m) may = a
starts_at first h jog (to_halt a b l) may = opposite (halts_next (left_of first h)) (halt_next (left_of first h) l) may.goes
starts_at first h jog (was_halted a b l p m) may = opposite (has_blocks (plan_of h).blocks) may.blocks (ap has_blocks p.blocks)
starts_at first h jog (locked a b f l p m) may = opposite (has_blocks (plan_of h).blocks) may.blocks (ap has_blocks p.blocks)

pub none_starts : (first : Opening) (h : Journal) (jog : Bool) (m : Motion) → Conducted first (became (on_start jog) m ∷ h) → has_limited h ≡ false
none_starts first h jog m c = starts_at first h jog (stage_is first h c.1) c.0.1

-- and no word is obeyed before the machine slows down
obeys_at : (first : Opening) (h : Journal) (word : Exec) (queued : Bool) → Stage first h → MayObey first word queued h → has_limited h ≡ true → is_limited (motion_of first h) ≡ true
obeys_at first h word queued (calm a b m) may one = opposite (has_limited h) one a
obeys_at first h word queued (to_halt a b l) may one = may.halts (halt_next (left_of first h) l)
obeys_at first h word queued (was_halted a b l p m) may one = ap is_limited m
obeys_at first h word queued (locked a b f l p m) may one = opposite (has_limited h) one a

pub obeys_late : (first : Opening) (h : Journal) (word : Exec) (queued : Bool) (m : Motion) → Conducted first (became (on_exec word queued) m ∷ h) → has_limited h ≡ true → is_limited (motion_of first h) ≡ true
obeys_late first h word queued m c one = obeys_at first h word queued (stage_is first h c.1) c.0.1 one

-- the machine is halted once
halts_at : {A : Type 0} (first : Opening) (h : Journal) → Stage first h → IsNextTask first halt h → has_halted h ≡ true → A
halts_at first h (calm a b m) next was = opposite (has_halted h) was b
halts_at first h (to_halt a b l) next was = opposite (has_halted h) was b
halts_at first h (was_halted a b l p m) next was = not_told (left_of first h) halt next refl l
halts_at first h (locked a b f l p m) next was = not_told (left_of first h) halt next refl l

-- what is left where it is
left_at : (first : Opening) (h : Journal) → Stage first h → IsNextTask first halt h → motion_of first h ≡ motions.Alarm → left_of first h ≡ halting_work
left_at first h (calm a b m) next alarm = absurd (let e = sym (ap is_limited alarm) ∙ m in cc)
left_at first h (to_halt a b l) next alarm = l
left_at first h (was_halted a b l p m) next alarm = not_told (left_of first h) halt next refl l
left_at first h (locked a b f l p m) next alarm = not_told (left_of first h) halt next refl l

pub halting_left : (first : Opening) (h : Journal) → Conducted first (halted ∷ h) → left_of first h ≡ halting_work
halting_left first h c = left_at first h (stage_is first h c.1) c.0.next c.0.alarm

alarmed_before : (first : Opening) (h : Journal) → Stage first h → IsNextTask first halt h → motion_of first h ≡ motions.Alarm → has_limited h ≡ true
alarmed_before first h (calm a b m) next alarm = absurd (let e = sym (ap is_limited alarm) ∙ m in cc)
alarmed_before first h (to_halt a b l) next alarm = a
alarmed_before first h (was_halted a b l p m) next alarm = a
alarmed_before first h (locked a b f l p m) next alarm = not_told (left_of first h) halt next refl l

pub halting_alarmed : (first : Opening) (h : Journal) → Conducted first (halted ∷ h) → has_limited h ≡ true
halting_alarmed first h c = alarmed_before first h (stage_is first h c.1) c.0.next c.0.alarm

pub halted_once : (first : Opening) (h : Journal) → Conducted first (halted ∷ h) → has_halted h ≡ false
halted_once first h c = by_not (has_halted h) (λ was. halts_at first h (stage_is first h c.1) c.0.next was)

-- behind that only overrides change
pub only_override : (first : Opening) (h : Journal) (a : Action) (ps : List Piece) → MayDo first a h → Gives first.blocks a ps (plan_of h) → Stage first h → has_halted h ≡ true → (o : Overrides) × (a ≡ Override o) × (ps ≡ [])
only_override first h a ps may gives (calm x b m) was = opposite (has_halted h) was b
only_override first h a ps may gives (to_halt x b l) was = opposite (has_halted h) was b
only_override first h a ps may gives (locked x b f l p alarm) was = opposite (has_halted h) was b
only_override first h (Add m) ps may gives (was_halted x b l p alarm) was = not_told (left_of first h) (ask (a_move m)) may refl l
only_override first h (Mark m) ps may gives (was_halted x b l p alarm) was = not_told (left_of first h) (ask (a_mark m)) may.next refl l
only_override first h Rest ps may gives (was_halted x b l p alarm) was = not_told (left_of first h) (ask a_rest) may.next refl l
only_override first h (Take mode) ps may gives (was_halted x b l p alarm) was = absurd (none_taken first.blocks (plan_of h) mode ps (steps.plan_after (Take mode) ps (plan_of h)) p.blocks gives)
only_override first h (Override o) [] may gives (was_halted x b l p alarm) was = (o, refl, refl)
only_override first h (Override o) (q ∷ ps) may gives (was_halted x b l p alarm) was = absurd gives.1
only_override first h Clear ps may gives (was_halted x b l p alarm) was = absurd may
only_override first h Reset ps may gives (was_halted x b l p alarm) was = absurd may

-- ---- the plan of the open part

-- where the machine was not halted it is the plan
pub part_plan_is : (h : Journal) → has_halted h ≡ false → part_plan h ≡ plan_of h
part_plan_is [] none = refl
part_plan_is (did a ps ∷ h) none = ap (λ (p : Planned). steps.plan_after a ps p) (part_plan_is h none)
part_plan_is (evened ∷ h) none = ap (λ (p : Planned). steps.plan_after (Override normal_overrides) [] p) (part_plan_is h none)
part_plan_is (cut k ∷ h) none = refl
part_plan_is (halted ∷ h) none = absurd cc
part_plan_is (_ ∷ h) none = part_plan_is h none

pub calm_plan : (first : Opening) (h : Journal) → Conducted first h → has_limited h ≡ false → part_plan h ≡ plan_of h
calm_plan first h c none = part_plan_is h (unhalted first h c none)
