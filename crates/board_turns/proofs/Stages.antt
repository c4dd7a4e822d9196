-- Where a line has raised an alarm: the motion is stopped for that, the machine halted, the alarm told, and the run ended.
use Rattle.std.proofs.Common.{◌≡◌, ℕ, ◌⊎◌, inl, inr, Bool, true, false, List, [], ◌∷◌, ◌++◌, drop, Some, sym, refl, ap, ◌∙◌, subst, append-nil}
use Rattle.board_rules.proofs.Facts.{none_by_bye}
use Rattle.feed_hold.specs.declared.Motion.{Motion}
use Rattle.feed_hold.specs.declared.Motion.TheVariants.{Idle, Run, Holding, Held, Jog, Cancelling, Stopping, Alarm}
use Rattle.feed_hold.specs.Motions.{Call, Reached, after, is_stopping}
use Rattle.feed_hold.specs.Motions.Call.{on_exec, on_start, on_limit, on_pause, on_stopped, on_drained, on_unlock}
use Rattle.feed_hold.proofs.Reaching.{StaysOrReaches, reached}
use Rattle.planner_runs.specs.declared.Action.{Action}
use Rattle.planner_runs.specs.declared.Action.TheVariants.{Add, Take, Override, Mark, Rest, Clear, Reset}
use Rattle.overrides.specs.declared.Overrides.{Overrides}
use Rattle.plan_rules.specs.declared.Mode.TheVariants.{Go, Hold}
use Rattle.status_report.specs.declared.Reply.{Reply}
use Rattle.status_report.specs.declared.Reply.TheVariants.{Bye}
use Rattle.step_line.specs.Asking.Asked.{a_move, a_mark, a_rest}
use Rattle.step_line.specs.Finishing.{ticks_together}
use Rattle.step_line.specs.declared.Piece.{Piece}
use Rattle.board_journal.specs.Openings.{Opening}
use Rattle.run_rules.specs.Work.{Task, Outcome, is_limit, halting_work, telling}
use Rattle.run_rules.specs.Work.Task.{ask, tell, pause, normal, finish, halt}
use Rattle.run_rules.specs.Finding.{Found}
use Rattle.board_journal.specs.Ports.{MayBeDone}
use Rattle.board_journal.specs.Ports.PortStep.{took, answered, published, loaded, found_halt}
use Rattle.board_journal.specs.Steps.{Journal, port_log, has_limited, open_of, before_of, left_of, whole_of, closed_tells, known_of, given_of, hand_of, plan_of, motion_of, plan_after}
use Rattle.board_journal.specs.Steps.Step.{at_port, began, did, made_end, evened, paused, became, cut, halted, closing}
use Rattle.board_rules.specs.Turns.{begins_in, machine_in, is_going, is_limited, is_locked, halts_next, stands_still, counts_tries}
use Rattle.board_rules.proofs.Alarms.{still_locked}
use Rattle.board_rules.proofs.Locking.{locked_stands, or_false}
use Rattle.board_rules.proofs.Opening.{opens_still}
use Rattle.board_rules.specs.Conduct.{Conducted, Gives, IsDrained, IsNextTask, MayBegin, MayDo, MayHappen, MayOpen, MayTell, ticks_given}
use Rattle.board_rules.proofs.Beginning.{caused, of_begun}
use Rattle.board_rules.proofs.Given.{all_known}
use Rattle.board_rules.proofs.Tasks.{none_next, none_given, head_is}
use Rattle.board_rules.specs.Limiting.{limit_pending}
use Rattle.board_rules.specs.Within.{MayFinish}
use Rattle.board_rules.proofs.HaltWorks.{no_halts, no_halts_behind, none_halts_next, no_halts_kept, line_halts, calm_in_jog, HaltsOrNot}
use Rattle.board_rules.proofs.Lasts.{closes_at_end}

opposite : {A : Type 0} (t : Bool) → t ≡ true → t ≡ false → A
opposite t is other = absurd (let e = sym is ∙ other in cc)

-- ---- motions

-- no soft limit stops it in another state
off : {A : Type 0} (was x : Motion) → is_limited x ≡ false → was ≡ x → is_limited was ≡ true → A
off was x none same is = absurd (let e = sym is ∙ ap is_limited same ∙ none in cc)

reached_limited : (now was : Motion) (call : Call) → (call ≡ on_unlock → ⊥) → Reached now call was → is_limited was ≡ true → is_limited now ≡ true
reached_limited Stopping was call other how is = refl
reached_limited Alarm was call other how is = refl
reached_limited Idle was call other (inl held) is = off was Held refl held.0 is
reached_limited Idle was call other (inr (inl (inl run, how))) is = off was Run refl run is
reached_limited Idle was call other (inr (inl (inr jog, how))) is = off was Jog refl jog is
reached_limited Idle was call other (inr (inr (inl cancelled))) is = off was Cancelling refl cancelled.0 is
reached_limited Idle was call other (inr (inr (inr locked))) is = absurd (other locked.1)
reached_limited Run was call other (inl (inl idle, how)) is = off was Idle refl idle is
reached_limited Run was call other (inl (inr held, how)) is = off was Held refl held is
reached_limited Run was call other (inr idle) is = off was Idle refl idle.0 is
reached_limited Holding was call other how is = off was Run refl how.0 is
reached_limited Held was call other (inl idle) is = off was Idle refl idle.0 is
reached_limited Held was call other (inr holding) is = off was Holding refl holding.0 is
reached_limited Jog was call other how is = off was Idle refl how.0 is
reached_limited Cancelling was call other how is = off was Jog refl how.0 is

stays_limited : (now was : Motion) (call : Call) → (call ≡ on_unlock → ⊥) → StaysOrReaches now call was → is_limited was ≡ true → is_limited now ≡ true
stays_limited now was call other (inl same) is = ap is_limited same ∙ is
stays_limited now was call other (inr how) is = reached_limited now was call other how is

alarm_reached : (now was : Motion) (call : Call) → (call ≡ on_unlock → ⊥) → Reached now call was → was ≡ Alarm → now ≡ Alarm
alarm_reached Alarm was call other how is = refl
alarm_reached Stopping was call other how is = absurd (let e = sym how.0 ∙ is in cc)
alarm_reached step was call other how is = absurd (let e = reached_limited step was call other how (ap is_limited is) in cc)

stays_alarm : (now was : Motion) (call : Call) → (call ≡ on_unlock → ⊥) → StaysOrReaches now call was → was ≡ Alarm → now ≡ Alarm
stays_alarm now was call other (inl same) is = same ∙ is
stays_alarm now was call other (inr how) is = alarm_reached now was call other how is

-- and is stopped by a limit alone
reached_calm : (now was : Motion) (call : Call) → (call ≡ on_limit → ⊥) → Reached now call was → is_limited was ≡ false → is_limited now ≡ false
reached_calm Stopping was call other how is = absurd (other how.1)
reached_calm Alarm was call other (inl idle) is = absurd (other idle.1)
reached_calm Alarm was call other (inr stopping) is = absurd (let e = sym is ∙ ap is_limited stopping.0 in cc)
reached_calm m was call other how is = refl

stays_calm : (now was : Motion) (call : Call) → (call ≡ on_limit → ⊥) → StaysOrReaches now call was → is_limited was ≡ false → is_limited now ≡ false
stays_calm now was call other (inl same) is = ap is_limited same ∙ is
stays_calm now was call other (inr how) is = reached_calm now was call other how is

-- ---- tasks of a run that is ended

abbrev pub only_ends : List Task → Bool
only_ends [] = true
only_ends (tell r ∷ ts) = only_ends ts
only_ends (finish ∷ ts) = only_ends ts
only_ends (_ ∷ ts) = false

ends_behind : (ts : List Task) → only_ends ts ≡ true → only_ends (drop 1 ts) ≡ true
ends_behind [] is = refl
ends_behind (tell r ∷ ts) is = is
ends_behind (finish ∷ ts) is = is
ends_behind (_ ∷ ts) is = absurd cc

-- such a task is not among them
not_of_end : {A : Type 0} (ts : List Task) (t : Task) → ts ≡ t ∷ drop 1 ts → only_ends (t ∷ drop 1 ts) ≡ false → only_ends ts ≡ true → A
not_of_end ts t next none is = absurd (let e = sym is ∙ ap only_ends next ∙ none in cc)

not_halt : {A : Type 0} (ts : List Task) (t : Task) → ts ≡ t ∷ drop 1 ts → (t ≡ halt → ⊥) → ts ≡ halting_work → A
not_halt ts t next other is = absurd (other (head_is ts t halt _ next is))

-- ---- how far it is

-- No line has raised an alarm. One has, and the motion is not stopped for that yet; or it is, and the machine is to be halted.
-- It was halted, and stands with nothing to run. The end is made. Or the machine is locked since the opening, with nothing to run; and then
-- the end may be made, too.
pub data Halting (first : Opening) (h : Journal) : Type 0 where
  calm : has_limited h ≡ false → is_limited (motion_of first h) ≡ false → no_halts (left_of first h) ≡ true → limit_pending h ≡ false → Halting first h
  pending : has_limited h ≡ true → limit_pending h ≡ true → left_of first h ≡ halting_work → whole_of h ≡ false → (motion_of first h ≡ Idle) ⊎ (motion_of first h ≡ Run) → Halting first h
  to_halt : has_limited h ≡ true → limit_pending h ≡ false → left_of first h ≡ halting_work → whole_of h ≡ false → is_limited (motion_of first h) ≡ true → Halting first h
  to_tell : has_limited h ≡ true → limit_pending h ≡ false → only_ends (left_of first h) ≡ true → whole_of h ≡ false → motion_of first h ≡ Alarm → IsDrained h → Halting first h
  ended : has_limited h ≡ true → limit_pending h ≡ false → (left_of first h ≡ tell Bye ∷ []) ⊎ ((left_of first h ≡ []) × (hand_of h ≡ [])) → whole_of h ≡ false → motion_of first h ≡ Alarm
      → (closed_tells h ≡ [] → ⊥) → Halting first h
  locked : has_limited h ≡ false → limit_pending h ≡ false → only_ends (left_of first h) ≡ true → motion_of first h ≡ Alarm → IsDrained h → Halting first h
  locked_end : has_limited h ≡ false → limit_pending h ≡ false → (left_of first h ≡ tell Bye ∷ []) ⊎ ((left_of first h ≡ []) × (hand_of h ≡ [])) → motion_of first h ≡ Alarm → (closed_tells h ≡ [] → ⊥) → Halting first h

-- a step that changes nothing of that
record StaysHalting (first : Opening) (h next : Journal) : Type 0 where
  alarmed : has_limited next ≡ has_limited h
  limited : limit_pending next ≡ limit_pending h
  left : left_of first next ≡ left_of first h
  whole : whole_of next ≡ whole_of h
  motion : motion_of first next ≡ motion_of first h
  hand : hand_of next ≡ hand_of h
  closed : closed_tells next ≡ closed_tells h
  drained : IsDrained h → IsDrained next

on_same : (first : Opening) (h next : Journal) → StaysHalting first h next → Halting first h → Halting first next
on_same first h next s (calm a m l p) = calm (s.alarmed ∙ a) (ap is_limited s.motion ∙ m) (ap no_halts s.left ∙ l) (s.limited ∙ p)
on_same first h next s (pending a p l w m) = pending (s.alarmed ∙ a) (s.limited ∙ p) (s.left ∙ l) (s.whole ∙ w) (subst (λ (x : Motion). (x ≡ Idle) ⊎ (x ≡ Run)) (sym s.motion) m)
on_same first h next s (to_halt a p l w m) = to_halt (s.alarmed ∙ a) (s.limited ∙ p) (s.left ∙ l) (s.whole ∙ w) (ap is_limited s.motion ∙ m)
on_same first h next s (to_tell a p l w m d) = to_tell (s.alarmed ∙ a) (s.limited ∙ p) (ap only_ends s.left ∙ l) (s.whole ∙ w) (s.motion ∙ m) (s.drained d)
on_same first h next s (ended a p (inl l) w m e) = ended (s.alarmed ∙ a) (s.limited ∙ p) (inl (s.left ∙ l)) (s.whole ∙ w) (s.motion ∙ m) (λ none. e (sym s.closed ∙ none))
on_same first h next s (ended a p (inr (l, d)) w m e) = ended (s.alarmed ∙ a) (s.limited ∙ p) (inr (s.left ∙ l, s.hand ∙ d)) (s.whole ∙ w) (s.motion ∙ m) (λ none. e (sym s.closed ∙ none))
on_same first h next s (locked a p l m d) = locked (s.alarmed ∙ a) (s.limited ∙ p) (ap only_ends s.left ∙ l) (s.motion ∙ m) (s.drained d)
on_same first h next s (locked_end a p (inl l) m e) = locked_end (s.alarmed ∙ a) (s.limited ∙ p) (inl (s.left ∙ l)) (s.motion ∙ m) (λ none. e (sym s.closed ∙ none))
on_same first h next s (locked_end a p (inr (l, d)) m e) = locked_end (s.alarmed ∙ a) (s.limited ∙ p) (inr (s.left ∙ l, s.hand ∙ d)) (s.motion ∙ m) (λ none. e (sym s.closed ∙ none))

-- ---- at the port

on_took : (first : Opening) (h : Journal) (b : ℕ) → has_limited h ≡ false → Halting first h → Halting first (at_port (took b) ∷ h)
on_took first h b none (calm a m l p) = calm a m l p
on_took first h b none (pending a p l w m) = opposite (has_limited h) a none
on_took first h b none (to_halt a p l w m) = opposite (has_limited h) a none
on_took first h b none (to_tell a p l w m d) = opposite (has_limited h) a none
on_took first h b none (ended a p l w m e) = opposite (has_limited h) a none
on_took first h b none (locked a p l m d) = locked a p l m (record { plan = d.plan; hand = d.hand; done = d.done })
on_took first h b none (locked_end a p l m e) = locked_end a p l m e

same_reply : (r s : Reply) → tell r ≡ tell s → r ≡ s
same_reply r s e = cc

on_answer : (first : Opening) (h : Journal) (r : Reply) → MayTell first r h → Halting first h → Halting first (at_port (answered r) ∷ h)
on_answer first h r may (calm a m l p) = calm a m (no_halts_behind (left_of first h) l) p
on_answer first h r may (pending a p l w m) = not_halt (left_of first h) (tell r) may.next (λ e. absurd cc) l
on_answer first h r may (to_halt a p l w m) = not_halt (left_of first h) (tell r) may.next (λ e. absurd cc) l
on_answer first h r may (to_tell a p l w m d) = to_tell a p (ends_behind (left_of first h) l) w m (record { plan = d.plan; hand = d.hand; done = d.done })
on_answer first h r may (ended a p (inl l) w m e) =
    ended a p (inr (ap (λ (ts : List Task). drop 1 ts) l, may.empty (same_reply r Bye (head_is (left_of first h) (tell r) (tell Bye) [] may.next l)))) w m e
on_answer first h r may (ended a p (inr (l, d)) w m e) = absurd (none_next (left_of first h) (tell r) l may.next)
on_answer first h r may (locked a p l m d) = locked a p (ends_behind (left_of first h) l) m (record { plan = d.plan; hand = d.hand; done = d.done })
on_answer first h r may (locked_end a p (inl l) m e) =
    locked_end a p (inr (ap (λ (ts : List Task). drop 1 ts) l, may.empty (same_reply r Bye (head_is (left_of first h) (tell r) (tell Bye) [] may.next l)))) m e
on_answer first h r may (locked_end a p (inr (l, d)) m e) = absurd (none_next (left_of first h) (tell r) l may.next)

on_publish : (first : Opening) (h : Journal) (p : Piece) → hand_of h ≡ p ∷ drop 1 (hand_of h) → Halting first h → Halting first (at_port (published p) ∷ h)
on_publish first h q next (calm a m l p) = calm a m l p
on_publish first h q next (pending a p l w m) = pending a p l w m
on_publish first h q next (to_halt a p l w m) = to_halt a p l w m
on_publish first h q next (to_tell a p l w m d) = absurd (none_next (hand_of h) q d.hand next)
on_publish first h q next (ended a p (inl l) w m e) = ended a p (inl l) w m e
on_publish first h q next (ended a p (inr (l, d)) w m e) = absurd (none_next (hand_of h) q d next)
on_publish first h q next (locked a p l m d) = absurd (none_next (hand_of h) q d.hand next)
on_publish first h q next (locked_end a p (inl l) m e) = locked_end a p (inl l) m e
on_publish first h q next (locked_end a p (inr (l, d)) m e) = absurd (none_next (hand_of h) q d next)

on_load : (first : Opening) (h : Journal) (n : ℕ) → Conducted first h → MayBeDone n (port_log h) → Halting first h → Halting first (at_port (loaded n) ∷ h)
on_load first h n c may (calm a m l p) = calm a m l p
on_load first h n c may (pending a p l w m) = pending a p l w m
on_load first h n c may (to_halt a p l w m) = to_halt a p l w m
on_load first h n c may (to_tell a p l w m d) = to_tell a p l w m (record { plan = d.plan; hand = d.hand; done = all_known first h n c may d.done })
on_load first h n c may (ended a p l w m e) = ended a p l w m e
on_load first h n c may (locked a p l m d) = locked a p l m (record { plan = d.plan; hand = d.hand; done = all_known first h n c may d.done })
on_load first h n c may (locked_end a p l m e) = locked_end a p l m e

-- ---- the lines

not_jog : (m : Motion) → begins_in m ≡ true → (m ≡ Jog → ⊥) → (m ≡ Idle) ⊎ (m ≡ Run)
not_jog Idle is other = inl refl
not_jog Run is other = inr refl
not_jog Jog is other = absurd (other refl)
not_jog m is other = absurd cc

-- a line that raises an alarm finds the machine standing or running, where it is not locked
stands_at_alarm : (first : Opening) (h : Journal) (o : Outcome) → begins_in (motion_of first h) ≡ true → Found (machine_in (motion_of first h)) (before_of first h) (open_of h) o → is_limit o.answer ≡ true → (motion_of first h ≡ Idle) ⊎ (motion_of first h ≡ Run)
stands_at_alarm first h o begins found one = not_jog (motion_of first h) begins (λ jog.
    opposite (is_limit o.answer) one (calm_in_jog (before_of first h) (open_of h) o (subst (λ (m : Motion). Found (machine_in m) (before_of first h) (open_of h) o) jog found)))

by_truth : {A : Type 0} (b : Bool) → (b ≡ true → A) → (b ≡ false → A) → A
by_truth true f g = f refl
by_truth false f g = g refl

-- what is only told halts no machine
pub told_halts : (rs : List Reply) → halts_next (telling rs) ≡ false
told_halts [] = refl
told_halts (r ∷ rs) = refl

told_ends : (rs : List Reply) → only_ends (telling rs) ≡ true
told_ends [] = refl
told_ends (r ∷ rs) = told_ends rs

-- a machine that no soft limit stops is not locked
unlocked : (first : Opening) (h : Journal) → Conducted first h → is_limited (motion_of first h) ≡ false → is_locked first h ≡ false
unlocked first h c none = by_truth (is_locked first h) (λ is. opposite (is_limited (motion_of first h)) (ap is_limited (locked_stands first h c is)) none) (λ is. is)

on_line : (first : Opening) (h : Journal) (o : Outcome) → Conducted first h → MayBegin first o h → HaltsOrNot o → Halting first h → Halting first (began o ∷ h)
on_line first h o c may (inl (one, work)) (calm a m l p) =
    pending one (ap halts_next work) work refl (stands_at_alarm first h o (or_false (begins_in (motion_of first h)) (is_locked first h) may.begins (unlocked first h c m)) may.becomes one)
on_line first h o c may (inr (none, work)) (calm a m l p) = calm none m work (none_halts_next o.work work)
on_line first h o c may how (pending a p l w m) = opposite (has_limited h) a may.calm
on_line first h o c may how (to_halt a p l w m) = opposite (has_limited h) a may.calm
on_line first h o c may how (to_tell a p l w m d) = opposite (has_limited h) a may.calm
on_line first h o c may how (ended a p l w m e) = opposite (has_limited h) a may.calm
on_line first h o c may how (locked a p l m d) =
    let s = still_locked first h o (may, c) m in locked s.calm (ap halts_next s.work ∙ told_halts s.said) (ap only_ends s.work ∙ told_ends s.said) m (record { plan = d.plan; hand = d.hand; done = d.done })
on_line first h o c may how (locked_end a p l m e) = absurd (e may.going)

-- and where it may be: no line raises an alarm there
pub alarm_stands : (first : Opening) (h : Journal) (o : Outcome) → Conducted first (began o ∷ h) → is_limit o.answer ≡ true → (motion_of first h ≡ Idle) ⊎ (motion_of first h ≡ Run)
alarm_stands first h o c one = by_truth (is_locked first h)
    (λ locked. opposite (is_limit o.answer) one (still_locked first h o c (locked_stands first h c.1 locked)).calm)
    (λ free. stands_at_alarm first h o (or_false (begins_in (motion_of first h)) (is_locked first h) c.0.begins free) c.0.becomes one)

-- ---- the plan

-- what is asked for comes before an alarm
on_asked : (first : Opening) (h next : Journal) (t : Task) → IsNextTask first t h → (t ≡ halt → ⊥) → only_ends (t ∷ drop 1 (left_of first h)) ≡ false → (t ≡ tell Bye → ⊥) → has_limited next ≡ has_limited h → left_of first next ≡ drop 1 (left_of first h)
    → (is_limited (motion_of first h) ≡ false → is_limited (motion_of first next) ≡ false) → limit_pending next ≡ limit_pending h → Halting first h → Halting first next
on_asked first h next t is other none no_bye alarmed left motion same (calm a m l p) = calm (alarmed ∙ a) (motion m) (ap no_halts left ∙ no_halts_behind (left_of first h) l) (same ∙ p)
on_asked first h next t is other none no_bye alarmed left motion same (pending a p l w m) = not_halt (left_of first h) t is other l
on_asked first h next t is other none no_bye alarmed left motion same (to_halt a p l w m) = not_halt (left_of first h) t is other l
on_asked first h next t is other none no_bye alarmed left motion same (to_tell a p l w m d) = not_of_end (left_of first h) t is none l
on_asked first h next t is other none no_bye alarmed left motion same (ended a p (inl l) w m e) = absurd (no_bye (head_is (left_of first h) t (tell Bye) [] is l))
on_asked first h next t is other none no_bye alarmed left motion same (ended a p (inr (l, d)) w m e) = absurd (none_next (left_of first h) t l is)
on_asked first h next t is other none no_bye alarmed left motion same (locked a p l m d) = not_of_end (left_of first h) t is none l
on_asked first h next t is other none no_bye alarmed left motion same (locked_end a p (inl l) m e) = absurd (no_bye (head_is (left_of first h) t (tell Bye) [] is l))
on_asked first h next t is other none no_bye alarmed left motion same (locked_end a p (inr (l, d)) m e) = absurd (none_next (left_of first h) t l is)

-- no segment is taken of a machine that was halted
on_take : (first : Opening) (h next : Journal) → (motion_of first h ≡ Alarm → ⊥) → has_limited next ≡ has_limited h → limit_pending next ≡ limit_pending h → left_of first next ≡ left_of first h → whole_of next ≡ whole_of h → motion_of first next ≡ motion_of first h → Halting first h → Halting first next
on_take first h next other alarmed same left whole motion (calm a m l p) = calm (alarmed ∙ a) (ap is_limited motion ∙ m) (ap no_halts left ∙ l) (same ∙ p)
on_take first h next other alarmed same left whole motion (pending a p l w m) = pending (alarmed ∙ a) (same ∙ p) (left ∙ l) (whole ∙ w) (subst (λ (x : Motion). (x ≡ Idle) ⊎ (x ≡ Run)) (sym motion) m)
on_take first h next other alarmed same left whole motion (to_halt a p l w m) = to_halt (alarmed ∙ a) (same ∙ p) (left ∙ l) (whole ∙ w) (ap is_limited motion ∙ m)
on_take first h next other alarmed same left whole motion (to_tell a p l w m d) = absurd (other m)
on_take first h next other alarmed same left whole motion (ended a p l w m e) = absurd (other m)
on_take first h next other alarmed same left whole motion (locked a p l m d) = absurd (other m)
on_take first h next other alarmed same left whole motion (locked_end a p l m e) = absurd (other m)

on_override : (first : Opening) (h : Journal) (o : Overrides) (ps : List Piece) → ps ≡ [] → Halting first h → Halting first (did (Override o) ps ∷ h)
on_override first h o ps none = on_same first h (did (Override o) ps ∷ h) (record {
  alarmed = refl;
  limited = refl;
  left = refl;
  whole = refl;
  motion = refl;
  hand = keeps (hand_of h);
  closed = refl;
  drained = λ d. record {
    plan = record { blocks = d.plan.blocks; speed = d.plan.speed };
    hand = keeps (hand_of h) ∙ d.hand;
    done = d.done ∙ sym (ap ticks_together (keeps (given_of h)));
  };
})
  where
    keeps : (qs : List Piece) → qs ++ ps ≡ qs
    keeps qs = ap (λ (rs : List Piece). qs ++ rs) none ∙ append-nil qs

on_did : (first : Opening) (h : Journal) (a : Action) (ps : List Piece) → MayDo first a h → Gives first.blocks a ps (plan_of h) → Halting first h → Halting first (did a ps ∷ h)
on_did first h (Add m) ps may gives = on_asked first h (did (Add m) ps ∷ h) (ask (a_move m)) may (λ e. absurd cc) refl (λ e. absurd cc) refl refl (λ e. e) refl
on_did first h (Mark m) ps may gives = on_asked first h (did (Mark m) ps ∷ h) (ask (a_mark m)) may.next (λ e. absurd cc) refl (λ e. absurd cc) refl refl (λ e. e) refl
on_did first h Rest ps may gives = on_asked first h (did Rest ps ∷ h) (ask a_rest) may.next (λ e. absurd cc) refl (λ e. absurd cc) refl refl (λ e. e) refl
on_did first h (Take Go) ps may gives = on_take first h (did (Take Go) ps ∷ h) (λ e. absurd (let f = sym (ap is_going e) ∙ may.goes in cc)) refl refl refl refl refl
on_did first h (Take Hold) ps may gives = on_take first h (did (Take Hold) ps ∷ h) (λ e. absurd (let f = sym (ap is_stopping e) ∙ may.slows in cc)) refl refl refl refl refl
on_did first h (Override o) ps may gives = on_override first h o ps (none_given first.blocks (plan_after (Override o) ps (plan_of h)) (plan_after (Override o) ps (plan_of h)) ps gives.1)
on_did first h Clear ps may gives = absurd may
on_did first h Reset ps may gives = absurd may

on_end : (first : Opening) (h : Journal) → Conducted first h → IsNextTask first finish h → Halting first h → Halting first (made_end ∷ h)
on_end first h c next (calm a m l p) = calm a m (no_halts_behind (left_of first h) l) p
on_end first h c next (pending a p l w m) = not_halt (left_of first h) finish next (λ e. absurd cc) l
on_end first h c next (to_halt a p l w m) = not_halt (left_of first h) finish next (λ e. absurd cc) l
on_end first h c next (to_tell a p l w m d) = let is = closes_at_end first h c next in ended a p (inl is.later) w m is.closes
on_end first h c next (ended a p (inl l) w m e) = absurd (let f = head_is (left_of first h) finish (tell Bye) [] next l in cc)
on_end first h c next (ended a p (inr (l, d)) w m e) = absurd (none_next (left_of first h) finish l next)
on_end first h c next (locked a p l m d) = let is = closes_at_end first h c next in locked_end a p (inl is.later) m is.closes
on_end first h c next (locked_end a p (inl l) m e) = absurd (let f = head_is (left_of first h) finish (tell Bye) [] next l in cc)
on_end first h c next (locked_end a p (inr (l, d)) m e) = absurd (none_next (left_of first h) finish l next)

-- ---- the motion

either_off : {A : Type 0} (m : Motion) → (m ≡ Idle) ⊎ (m ≡ Run) → is_limited m ≡ true → A
either_off m (inl idle) is = off m Idle refl idle is
either_off m (inr run) is = off m Run refl run is

either_moves : {A : Type 0} (m : Motion) → (m ≡ Idle) ⊎ (m ≡ Run) → is_stopping m ≡ true → A
either_moves m (inl idle) is = absurd (let e = sym is ∙ ap is_stopping idle in cc)
either_moves m (inr run) is = absurd (let e = sym is ∙ ap is_stopping run in cc)

limit_to : (was now : Motion) → (was ≡ Idle) ⊎ (was ≡ Run) → after on_limit was ≡ Some now → is_limited now ≡ true
limit_to was now (inl idle) then = by_now now (sym (ap (after on_limit) idle) ∙ then)
  where
    by_now : (m : Motion) → Some Alarm ≡ Some m → is_limited m ≡ true
    by_now m e = ap is_limited (let f : m ≡ Alarm = cc in f)
limit_to was now (inr run) then = by_now now (sym (ap (after on_limit) run) ∙ then)
  where
    by_now : (m : Motion) → Some Stopping ≡ Some m → is_limited m ≡ true
    by_now m e = ap is_limited (let f : m ≡ Stopping = cc in f)

drained_to : (was now : Motion) → (was ≡ Idle) ⊎ (was ≡ Run) → after on_drained was ≡ Some now → now ≡ Idle
drained_to was now (inl idle) then = let e = sym (ap (after on_drained) idle) ∙ then in cc
drained_to was now (inr run) then = let e = sym (ap (after on_drained) run) ∙ then in cc

-- a call that is no limit
on_other : (first : Opening) (h : Journal) (call : Call) (m : Motion) → (call ≡ on_limit → ⊥) → (call ≡ on_unlock → ⊥) → limit_pending (became call m ∷ h) ≡ limit_pending h → StaysOrReaches m call (motion_of first h)
    → ((motion_of first h ≡ Idle) ⊎ (motion_of first h ≡ Run) → left_of first h ≡ halting_work → (m ≡ Idle) ⊎ (m ≡ Run)) → Halting first h → Halting first (became call m ∷ h)
on_other first h call m other never same how goes (calm a n l p) = calm a (stays_calm m (motion_of first h) call other how n) l (same ∙ p)
on_other first h call m other never same how goes (pending a p l w n) = pending a (same ∙ p) l w (goes n l)
on_other first h call m other never same how goes (to_halt a p l w n) = to_halt a (same ∙ p) l w (stays_limited m (motion_of first h) call never how n)
on_other first h call m other never same how goes (to_tell a p l w n d) = to_tell a (same ∙ p) l w (stays_alarm m (motion_of first h) call never how n) (record { plan = d.plan; hand = d.hand; done = d.done })
on_other first h call m other never same how goes (ended a p l w n e) = ended a (same ∙ p) l w (stays_alarm m (motion_of first h) call never how n) e
on_other first h call m other never same how goes (locked a p l n d) = locked a (same ∙ p) l (stays_alarm m (motion_of first h) call never how n) (record { plan = d.plan; hand = d.hand; done = d.done })
on_other first h call m other never same how goes (locked_end a p l n e) = locked_end a (same ∙ p) l (stays_alarm m (motion_of first h) call never how n) e

unlocks_alarm : (was now : Motion) → after on_unlock was ≡ Some now → was ≡ Alarm
unlocks_alarm Alarm now e = refl
unlocks_alarm was now e = absurd cc

unlocks_calm : (was now : Motion) → after on_unlock was ≡ Some now → is_limited now ≡ false
unlocks_calm Alarm now e = let f : Idle ≡ now = cc in sym (ap is_limited f)
unlocks_calm was now e = absurd cc

-- what ends a run halts no machine
ends_calm : (ts : List Task) → only_ends ts ≡ true → no_halts ts ≡ true
ends_calm [] is = refl
ends_calm (tell r ∷ ts) is = ends_calm ts is
ends_calm (finish ∷ ts) is = ends_calm ts is
ends_calm (_ ∷ ts) is = absurd cc

last_calm : (ts : List Task) (hand : List Piece) → (ts ≡ tell Bye ∷ []) ⊎ ((ts ≡ []) × (hand ≡ [])) → no_halts ts ≡ true
last_calm ts hand (inl l) = ap no_halts l
last_calm ts hand (inr (l, d)) = ap no_halts l

on_call : (first : Opening) (h : Journal) (call : Call) (m : Motion) → after call (motion_of first h) ≡ Some m → MayHappen first call h → Halting first h → Halting first (became call m ∷ h)
on_call first h (on_exec word queued) m then may = on_other first h (on_exec word queued) m (λ e. absurd cc) (λ e. absurd cc) refl (reached (on_exec word queued) (motion_of first h) m then)
    (λ n l. either_off (motion_of first h) n (may.halts (ap halts_next l)))
on_call first h (on_start jog) m then may = on_other first h (on_start jog) m (λ e. absurd cc) (λ e. absurd cc) refl (reached (on_start jog) (motion_of first h) m then)
    (λ n l. opposite (halts_next (left_of first h)) (ap halts_next l) may.goes)
on_call first h on_drained m then may = on_other first h on_drained m (λ e. absurd cc) (λ e. absurd cc) refl (reached on_drained (motion_of first h) m then)
    (λ n l. inl (drained_to (motion_of first h) m n then))
on_call first h on_stopped m then may = on_other first h on_stopped m (λ e. absurd cc) (λ e. absurd cc) refl (reached on_stopped (motion_of first h) m then)
    (λ n l. either_moves (motion_of first h) n may.stopped.slowed.slows)
on_call first h on_pause m then may = absurd may
on_call first h on_unlock m then may = by_stage
  where
    by_stage : Halting first h → Halting first (became on_unlock m ∷ h)
    by_stage (calm a n l p) = opposite (is_limited (motion_of first h)) (ap is_limited (unlocks_alarm (motion_of first h) m then)) n
    by_stage (pending a p l w n) = opposite (has_limited h) a may.calm
    by_stage (to_halt a p l w n) = opposite (has_limited h) a may.calm
    by_stage (to_tell a p l w n d) = opposite (has_limited h) a may.calm
    by_stage (ended a p l w n e) = opposite (has_limited h) a may.calm
    by_stage (locked a p l n d) = calm a (unlocks_calm (motion_of first h) m then) (ends_calm (left_of first h) l) p
    by_stage (locked_end a p l n e) = calm a (unlocks_calm (motion_of first h) m then) (last_calm (left_of first h) (hand_of h) l) p
on_call first h on_limit m then may = by_stage
  where
    by_stage : Halting first h → Halting first (became on_limit m ∷ h)
    by_stage (calm a n l p) = opposite (has_limited h) may.alarmed a
    by_stage (pending a p l w n) = to_halt a refl l w (limit_to (motion_of first h) m n then)
    by_stage (to_halt a p l w n) = opposite (is_limited (motion_of first h)) n may.unlimited
    by_stage (to_tell a p l w n d) = opposite (is_limited (motion_of first h)) (ap is_limited n) may.unlimited
    by_stage (ended a p l w n e) = opposite (is_limited (motion_of first h)) (ap is_limited n) may.unlimited
    by_stage (locked a p l n d) = opposite (has_limited h) may.alarmed a
    by_stage (locked_end a p l n e) = opposite (has_limited h) may.alarmed a

on_cut : (first : Opening) (h : Journal) (k : ℕ) → has_limited h ≡ false → motion_of first h ≡ Cancelling → Halting first h → Halting first (cut k ∷ h)
on_cut first h k none cancelled (calm a m l p) = calm a m (no_halts_kept (left_of first h) l) p
on_cut first h k none cancelled (pending a p l w m) = opposite (has_limited h) a none
on_cut first h k none cancelled (to_halt a p l w m) = opposite (has_limited h) a none
on_cut first h k none cancelled (to_tell a p l w m d) = opposite (has_limited h) a none
on_cut first h k none cancelled (ended a p l w m e) = opposite (has_limited h) a none
on_cut first h k none cancelled (locked a p l m d) = absurd (let e = sym m ∙ cancelled in cc)
on_cut first h k none cancelled (locked_end a p l m e) = absurd (let f = sym m ∙ cancelled in cc)

on_halted : (first : Opening) (h : Journal) → IsNextTask first halt h → motion_of first h ≡ Alarm → hand_of h ≡ [] → known_of h ≡ ticks_given h → Halting first h → Halting first (halted ∷ h)
on_halted first h next alarm empty done (calm a m l p) = opposite (is_limited (motion_of first h)) (ap is_limited alarm) m
on_halted first h next alarm empty done (pending a p l w m) = either_off (motion_of first h) m (ap is_limited alarm)
on_halted first h next alarm empty done (to_halt a p l w m) =
    to_tell a p (ap (λ (ts : List Task). only_ends (drop 1 ts)) l) w alarm (record { plan = record { blocks = refl; speed = refl }; hand = empty; done = done })
on_halted first h next alarm empty done (to_tell a p l w m d) = not_of_end (left_of first h) halt next refl l
on_halted first h next alarm empty done (ended a p (inl l) w m e) = absurd (let f = head_is (left_of first h) halt (tell Bye) [] next l in cc)
on_halted first h next alarm empty done (ended a p (inr (l, d)) w m e) = absurd (none_next (left_of first h) halt l next)
on_halted first h next alarm empty done (locked a p l m d) = not_of_end (left_of first h) halt next refl l
on_halted first h next alarm empty done (locked_end a p (inl l) m e) = absurd (let f = head_is (left_of first h) halt (tell Bye) [] next l in cc)
on_halted first h next alarm empty done (locked_end a p (inr (l, d)) m e) = absurd (none_next (left_of first h) halt l next)

on_closing : (first : Opening) (h : Journal) → left_of first h ≡ [] → closed_tells h ≡ [] → Halting first h → Halting first (closing ∷ h)
on_closing first h free going (calm a m l p) = calm a m refl p
on_closing first h free going (pending a p l w m) = absurd (let e = sym free ∙ l in cc)
on_closing first h free going (to_halt a p l w m) = absurd (let e = sym free ∙ l in cc)
on_closing first h free going (to_tell a p l w m d) = to_tell a p refl w m (record { plan = d.plan; hand = d.hand; done = d.done })
on_closing first h free going (ended a p l w m e) = absurd (e going)
on_closing first h free going (locked a p l m d) = locked a p refl m (record { plan = d.plan; hand = d.hand; done = d.done })
on_closing first h free going (locked_end a p l m e) = absurd (e going)

-- ---- of all that was done

same_drained : (h next : Journal) → plan_of next ≡ plan_of h → hand_of next ≡ hand_of h → known_of next ≡ known_of h → given_of next ≡ given_of h → IsDrained h → IsDrained next
same_drained h next plan hand known given d = record {
  plan = record { blocks = ap (λ p. p.blocks) plan ∙ d.plan.blocks; speed = ap (λ p. p.speed) plan ∙ d.plan.speed };
  hand = hand ∙ d.hand;
  done = known ∙ d.done ∙ sym (ap ticks_together given);
}

still : (first : Opening) (h next : Journal) → has_limited next ≡ has_limited h → limit_pending next ≡ limit_pending h → left_of first next ≡ left_of first h → whole_of next ≡ whole_of h → motion_of first next ≡ motion_of first h → hand_of next ≡ hand_of h
    → closed_tells next ≡ closed_tells h → plan_of next ≡ plan_of h → known_of next ≡ known_of h → given_of next ≡ given_of h → Halting first h → Halting first next
still first h next alarmed limited left whole motion hand closed plan known given = on_same first h next (record {
  alarmed = alarmed;
  limited = limited;
  left = left;
  whole = whole;
  motion = motion;
  hand = hand;
  closed = closed;
  drained = same_drained h next plan hand known given;
})

-- what greets is told alone
no_halts_told : (rs : List Reply) → no_halts (telling rs) ≡ true
no_halts_told [] = refl
no_halts_told (r ∷ rs) = no_halts_told rs

opens_so : (first : Opening) → MayOpen first → (m : Motion) → first.motion ≡ m → Halting first []
opens_so first opens Idle is = calm refl (ap is_limited is) (no_halts_told first.tells) refl
opens_so first opens Alarm is = locked refl refl (told_ends first.tells) is (record { plan = record { blocks = refl; speed = refl }; hand = refl; done = refl })
opens_so first opens m is = opens_still first m opens is refl

pub halting_is : (first : Opening) (h : Journal) → Conducted first h → Halting first h
halting_is first [] c = opens_so first c first.motion refl
halting_is first (at_port (took b) ∷ h) c = on_took first h b c.0.polls.calm (halting_is first h c.1)
halting_is first (at_port (answered r) ∷ h) c = on_answer first h r c.0 (halting_is first h c.1)
halting_is first (at_port (published p) ∷ h) c = on_publish first h p c.0.0 (halting_is first h c.1)
halting_is first (at_port (loaded done) ∷ h) c = on_load first h done c.1 c.0 (halting_is first h c.1)
halting_is first (at_port (found_halt done) ∷ h) c = absurd c.0
halting_is first (began o ∷ h) c = on_line first h o c.1 c.0 (of_begun first h o HaltsOrNot c.0 (inr (refl, refl)) (line_halts true (caused first h) (open_of h))) (halting_is first h c.1)
halting_is first (did a ps ∷ h) c = on_did first h a ps c.0.0 c.0.1 (halting_is first h c.1)
halting_is first (made_end ∷ h) c = on_end first h c.1 c.0.next (halting_is first h c.1)
halting_is first (evened ∷ h) c = on_asked first h (evened ∷ h) normal c.0.rests.next (λ e. absurd cc) refl (λ e. absurd cc) refl refl (λ e. e) refl (halting_is first h c.1)
halting_is first (paused ∷ h) c = on_asked first h (paused ∷ h) pause c.0.rests.next (λ e. absurd cc) refl (λ e. absurd cc) refl refl (λ e. refl) refl (halting_is first h c.1)
halting_is first (became call m ∷ h) c = on_call first h call m c.0.0 c.0.1 (halting_is first h c.1)
halting_is first (cut k ∷ h) c = on_cut first h k c.0.calm c.0.cancelled (halting_is first h c.1)
halting_is first (halted ∷ h) c = on_halted first h c.0.next c.0.alarm c.0.empty c.0.done (halting_is first h c.1)
halting_is first (closing ∷ h) c = on_closing first h c.0.free c.0.going (halting_is first h c.1)
halting_is first (e ∷ h) c = still first h (e ∷ h) refl refl refl refl refl refl refl refl refl refl (halting_is first h c.1)

-- ---- what follows

-- where the motion is stopped for a line that is to halt the machine, and no soft limit stops it, no line has raised an alarm
calm_at : (first : Opening) (h : Journal) → Halting first h → limit_pending h ≡ false → is_limited (motion_of first h) ≡ false → has_limited h ≡ false
calm_at first h (calm a m l p) none off_limit = a
calm_at first h (pending a p l w m) none off_limit = opposite (limit_pending h) p none
calm_at first h (to_halt a p l w m) none off_limit = opposite (is_limited (motion_of first h)) m off_limit
calm_at first h (to_tell a p l w m d) none off_limit = opposite (is_limited (motion_of first h)) (ap is_limited m) off_limit
calm_at first h (ended a p l w m e) none off_limit = opposite (is_limited (motion_of first h)) (ap is_limited m) off_limit
calm_at first h (locked a p l m d) none off_limit = a
calm_at first h (locked_end a p l m e) none off_limit = a

pub unalarmed : (first : Opening) (h : Journal) → Conducted first h → limit_pending h ≡ false → is_limited (motion_of first h) ≡ false → has_limited h ≡ false
unalarmed first h c none other = calm_at first h (halting_is first h c) none other

-- where it is stopped for a line that has raised an alarm, a soft limit stops it, and no line is left
alarmed_at : (first : Opening) (h : Journal) → Halting first h → limit_pending h ≡ false → has_limited h ≡ true → (is_limited (motion_of first h) ≡ true) × (whole_of h ≡ false)
alarmed_at first h (calm a m l p) none one = opposite (has_limited h) one a
alarmed_at first h (pending a p l w m) none one = opposite (limit_pending h) p none
alarmed_at first h (to_halt a p l w m) none one = (m, w)
alarmed_at first h (to_tell a p l w m d) none one = (ap is_limited m, w)
alarmed_at first h (ended a p l w m e) none one = (ap is_limited m, w)
alarmed_at first h (locked a p l m d) none one = opposite (has_limited h) one a
alarmed_at first h (locked_end a p l m e) none one = opposite (has_limited h) one a

pub alarm_limits : (first : Opening) (h : Journal) → Conducted first h → limit_pending h ≡ false → has_limited h ≡ true → (is_limited (motion_of first h) ≡ true) × (whole_of h ≡ false)
alarm_limits first h c none one = alarmed_at first h (halting_is first h c) none one

-- only a line that has raised an alarm halts a machine
raised_at : (first : Opening) (h : Journal) → Halting first h → halts_next (left_of first h) ≡ true → has_limited h ≡ true
raised_at first h (calm a m l p) next = opposite (halts_next (left_of first h)) next (none_halts_next (left_of first h) l)
raised_at first h (pending a p l w m) next = a
raised_at first h (to_halt a p l w m) next = a
raised_at first h (to_tell a p l w m d) next = a
raised_at first h (ended a p l w m e) next = a
raised_at first h (locked a p l m d) next = opposite (halts_next (left_of first h)) next (none_halts_next (left_of first h) (ends_calm (left_of first h) l))
raised_at first h (locked_end a p l m e) next = opposite (halts_next (left_of first h)) next (none_halts_next (left_of first h) (last_calm (left_of first h) (hand_of h) l))

pub halts_raised : (first : Opening) (h : Journal) → Conducted first h → halts_next (left_of first h) ≡ true → has_limited h ≡ true
halts_raised first h c next = raised_at first h (halting_is first h c) next

-- a machine that is to be halted slows down, or stands in alarm
halts_at : (first : Opening) (h : Journal) → Halting first h → limit_pending h ≡ false → halts_next (left_of first h) ≡ true → is_limited (motion_of first h) ≡ true
halts_at first h (calm a m l p) none next = opposite (halts_next (left_of first h)) next (none_halts_next (left_of first h) l)
halts_at first h (pending a p l w m) none next = opposite (limit_pending h) p none
halts_at first h (to_halt a p l w m) none next = m
halts_at first h (to_tell a p l w m d) none next = ap is_limited m
halts_at first h (ended a p l w m e) none next = ap is_limited m
halts_at first h (locked a p l m d) none next = ap is_limited m
halts_at first h (locked_end a p l m e) none next = ap is_limited m

pub halts_limited : (first : Opening) (h : Journal) → Conducted first h → limit_pending h ≡ false → halts_next (left_of first h) ≡ true → is_limited (motion_of first h) ≡ true
halts_limited first h c none next = halts_at first h (halting_is first h c) none next

-- what is next of such a run is to halt the machine, to tell something, or to make the end
abbrev pub ends_run : Task → Bool
ends_run (tell r) = true
ends_run finish = true
ends_run halt = true
ends_run _ = false

first_of_end : (t : Task) (ts : List Task) → only_ends (t ∷ ts) ≡ true → ends_run t ≡ true
first_of_end (tell r) ts is = refl
first_of_end finish ts is = refl
first_of_end _ ts is = absurd cc

next_at : (first : Opening) (h : Journal) (t : Task) → Halting first h → is_limited (motion_of first h) ≡ true → IsNextTask first t h → ends_run t ≡ true
next_at first h t (calm a m l p) is next = opposite (is_limited (motion_of first h)) is m
next_at first h t (pending a p l w m) is next = either_off (motion_of first h) m is
next_at first h t (to_halt a p l w m) is next = ap ends_run (head_is (left_of first h) t halt _ next l)
next_at first h t (to_tell a p l w m d) is next = first_of_end t (drop 1 (left_of first h)) (sym (ap only_ends next) ∙ l)
next_at first h t (ended a p (inl l) w m e) is next = ap ends_run (head_is (left_of first h) t (tell Bye) [] next l)
next_at first h t (ended a p (inr (l, d)) w m e) is next = absurd (none_next (left_of first h) t l next)
next_at first h t (locked a p l m d) is next = first_of_end t (drop 1 (left_of first h)) (sym (ap only_ends next) ∙ l)
next_at first h t (locked_end a p (inl l) m e) is next = ap ends_run (head_is (left_of first h) t (tell Bye) [] next l)
next_at first h t (locked_end a p (inr (l, d)) m e) is next = absurd (none_next (left_of first h) t l next)

pub limited_next : (first : Opening) (h : Journal) (t : Task) → Conducted first h → is_limited (motion_of first h) ≡ true → IsNextTask first t h → ends_run t ≡ true
limited_next first h t c is next = next_at first h t (halting_is first h c) is next

-- the end comes where nothing is left to run
finish_at : (first : Opening) (h : Journal) → Halting first h → is_limited (motion_of first h) ≡ true → IsNextTask first finish h → MayFinish first h
finish_at first h (calm a m l p) is next = opposite (is_limited (motion_of first h)) is m
finish_at first h (pending a p l w m) is next = either_off (motion_of first h) m is
finish_at first h (to_halt a p l w m) is next = not_halt (left_of first h) finish next (λ e. absurd cc) l
finish_at first h (to_tell a p l w m d) is next = record { drained = d; stands = ap stands_still m }
finish_at first h (ended a p (inl l) w m e) is next = absurd (let f = head_is (left_of first h) finish (tell Bye) [] next l in cc)
finish_at first h (ended a p (inr (l, d)) w m e) is next = absurd (none_next (left_of first h) finish l next)
finish_at first h (locked a p l m d) is next = record { drained = d; stands = ap stands_still m }
finish_at first h (locked_end a p (inl l) m e) is next = absurd (let f = head_is (left_of first h) finish (tell Bye) [] next l in cc)
finish_at first h (locked_end a p (inr (l, d)) m e) is next = absurd (none_next (left_of first h) finish l next)

pub limited_finish : (first : Opening) (h : Journal) → Conducted first h → is_limited (motion_of first h) ≡ true → IsNextTask first finish h → MayFinish first h
limited_finish first h c is next = finish_at first h (halting_is first h c) is next

-- no try to publish is counted where a piece is in hand
none_at : (first : Opening) (h : Journal) → Halting first h → has_limited h ≡ true → (hand_of h ≡ [] → ⊥) → counts_tries (left_of first h) false ≡ false
none_at first h (calm a m l p) one some = opposite (has_limited h) one a
none_at first h (pending a p l w m) one some = ap (λ (ts : List Task). counts_tries ts false) l
none_at first h (to_halt a p l w m) one some = ap (λ (ts : List Task). counts_tries ts false) l
none_at first h (to_tell a p l w m d) one some = absurd (some d.hand)
none_at first h (ended a p (inl l) w m e) one some = none_by_bye (left_of first h) Bye refl (l ∙ ap (λ (ts : List Task). tell Bye ∷ drop 1 ts) (sym l))
none_at first h (ended a p (inr (l, d)) w m e) one some = absurd (some d)
none_at first h (locked a p l m d) one some = opposite (has_limited h) one a
none_at first h (locked_end a p l m e) one some = opposite (has_limited h) one a

pub none_alarmed : (first : Opening) (h : Journal) → Conducted first h → has_limited h ≡ true → (hand_of h ≡ [] → ⊥) → counts_tries (left_of first h) false ≡ false
none_alarmed first h c one some = none_at first h (halting_is first h c) one some

-- ---- what is left where the machine is to be halted

halting_at : (first : Opening) (h : Journal) → Halting first h → is_limited (motion_of first h) ≡ true → IsNextTask first halt h → left_of first h ≡ halting_work
halting_at first h (calm a m l p) is next = opposite (is_limited (motion_of first h)) is m
halting_at first h (pending a p l w m) is next = l
halting_at first h (to_halt a p l w m) is next = l
halting_at first h (to_tell a p l w m d) is next = not_of_end (left_of first h) halt next refl l
halting_at first h (ended a p (inl l) w m e) is next = absurd (let f = head_is (left_of first h) halt (tell Bye) [] next l in cc)
halting_at first h (ended a p (inr (l, d)) w m e) is next = absurd (none_next (left_of first h) halt l next)
halting_at first h (locked a p l m d) is next = not_of_end (left_of first h) halt next refl l
halting_at first h (locked_end a p (inl l) m e) is next = absurd (let f = head_is (left_of first h) halt (tell Bye) [] next l in cc)
halting_at first h (locked_end a p (inr (l, d)) m e) is next = absurd (none_next (left_of first h) halt l next)

pub halting_left : (first : Opening) (h : Journal) → Conducted first h → is_limited (motion_of first h) ≡ true → IsNextTask first halt h → left_of first h ≡ halting_work
halting_left first h c is next = halting_at first h (halting_is first h c) is next
