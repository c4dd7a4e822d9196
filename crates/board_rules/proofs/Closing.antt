-- A run that is closed is over once its end is published and Bye is told.
use Rattle.std.proofs.Common.{◌≡◌, ℕ, ◌+◌, arith, ◌⊎◌, inl, inr, Bool, true, false, List, [], ◌∷◌, ◌++◌, drop, refl, sym, ap, ◌∙◌, append-nil}
use Rattle.status_report.specs.declared.Reply.{Reply}
use Rattle.status_report.specs.declared.Reply.TheVariants.{Bye}
use Rattle.feed_hold.specs.declared.Motion.{Motion}
use Rattle.feed_hold.specs.declared.Motion.TheVariants as motions
use Rattle.feed_hold.specs.Motions.{Call}
use Rattle.feed_hold.proofs.Reaching.{StaysOrReaches, reached}
use Rattle.step_line.specs.declared.Mark.TheVariants as marks
use Rattle.step_line.specs.declared.Piece.{Piece}
use Rattle.step_line.specs.declared.Piece.TheVariants as pieces
use Rattle.step_line.specs.Asking.Asked.{a_move, a_mark, a_rest}
use Rattle.step_line.specs.Finishing.{ticks_together}
use Rattle.overrides.specs.declared.Overrides.{Overrides}
use Rattle.plan_rules.specs.Plans.{Planned}
use Rattle.plan_rules.specs.declared.Mode.{Mode}
use Rattle.plan_rules.specs.declared.Mode.TheVariants.{Go, Hold}
use Rattle.planner_runs.specs.declared.Action.{Action}
use Rattle.planner_runs.specs.declared.Action.TheVariants.{Add, Take, Override, Mark, Rest, Clear, Reset}
use Rattle.planner_runs.specs.Runs.{IsAtRest}
use Rattle.board_journal.specs.Openings.{Opening}
use Rattle.run_rules.specs.Work.{Task, closing_work}
use Rattle.run_rules.specs.Work.Task.{ask, tell, pause, normal, finish, halt}
use Rattle.board_journal.specs.Ports.{MayBeDone}
use Rattle.board_journal.specs.Ports.PortStep.{took, found_closed, answered, published, loaded, found_halt}
use Rattle.board_rules.specs.Turns.{stands_still}
use Rattle.board_journal.specs.Steps.{Journal, port_log, has_limited, motion_of, without_asks, known_of, given_of, planned_of, hand_of, plan_of, left_of, plan_after, whole_of, has_closed, closed_tells}
use Rattle.board_journal.specs.Steps.Step.{at_port, began, did, made_end, evened, paused, became, cut, halted, closing}
use Rattle.board_rules.specs.Conduct.{Conducted, ticks_given, Gives, MayDo, MayEnd, MayEven, MayHappen, MayPause, MayTell, IsFinished}
use Rattle.board_rules.specs.Whole.{IsSpent}
use Rattle.step_line.proofs.Finished.{together_both}
use Rattle.board_rules.proofs.Given.{all_known}
use Rattle.board_rules.proofs.Standing.{stands, calm_motion, moved_on}
use Rattle.board_rules.proofs.Tasks.{none_next, none_taken, none_given, head_is, rest_is, none_first}

-- How far the closing of a run is: by what is left to do, what is told by closing it, whether a line was taken whole, the
-- hand, the plan, all pieces that were given, those that the plan gave, the ticks that were found done, and the motion.
pub data Phase (left : List Task) (closed : List Reply) (whole : Bool) (hand : List Piece) (plan : Planned) (given planned : List Piece) (known : ℕ) (motion : Motion) : Type 0 where
  going : closed ≡ [] → given ≡ planned → Phase left closed whole hand plan given planned known motion
  to_finish : closed ≡ Bye ∷ [] → left ≡ closing_work → whole ≡ false → given ≡ planned → Phase left closed whole hand plan given planned known motion
  to_tell : closed ≡ Bye ∷ [] → left ≡ tell Bye ∷ [] → whole ≡ false → IsAtRest plan → stands motion ≡ true → given ≡ planned ++ pieces.End ∷ [] → known ≡ ticks_together given
      → Phase left closed whole hand plan given planned known motion
  over : closed ≡ Bye ∷ [] → left ≡ [] → whole ≡ false → IsAtRest plan → stands motion ≡ true → hand ≡ [] → given ≡ planned ++ pieces.End ∷ [] → known ≡ ticks_together given
      → Phase left closed whole hand plan given planned known motion

abbrev pub At : Opening → Journal → Type 0
At first h = Phase (left_of first h) (closed_tells h) (whole_of h) (hand_of h) (plan_of h) (given_of h) (planned_of h) (known_of h) (motion_of first h)

pub not_going : {A : Type 0} (rs : List Reply) → rs ≡ Bye ∷ [] → rs ≡ [] → A
not_going rs is none = absurd (let e = sym none ∙ is in cc)

-- where the run is not being closed, no end was given
unended : (first : Opening) (h : Journal) → closed_tells h ≡ [] → At first h → given_of h ≡ planned_of h
unended first h none (going e is) = is
unended first h none (to_finish e l w is) = is
unended first h none (to_tell e l w p still is k) = not_going (closed_tells h) e none
unended first h none (over e l w p still d is k) = not_going (closed_tells h) e none

not_finish_tell : {A : Type 0} (r : Reply) → tell r ≡ finish → A
not_finish_tell r e = absurd cc

same_reply : (r s : Reply) → tell r ≡ tell s → r ≡ s
same_reply r s e = cc

on_answer : (first : Opening) (h : Journal) (r : Reply) → MayTell first r h → At first h → At first (at_port (answered r) ∷ h)
on_answer first h r may (going e is) = going e is
on_answer first h r may (to_finish e l w is) = not_finish_tell r (head_is (left_of first h) (tell r) finish _ may.next l)
on_answer first h r may (to_tell e l w p still is k) =
    over e (rest_is (left_of first h) (tell Bye) [] l) w p still (may.empty (same_reply r Bye (head_is (left_of first h) (tell r) (tell Bye) [] may.next l))) is k
on_answer first h r may (over e l w p still d is k) = none_first (left_of first h) (tell r) may.next l

on_publish : (first : Opening) (h : Journal) (p : Piece) → hand_of h ≡ p ∷ drop 1 (hand_of h) → At first h → At first (at_port (published p) ∷ h)
on_publish first h p next (going e is) = going e is
on_publish first h p next (to_finish e l w is) = to_finish e l w is
on_publish first h p next (to_tell e l w q still is k) = to_tell e l w q still is k
on_publish first h p next (over e l w q still d is k) = absurd (none_next (hand_of h) p d next)

-- no move, mark, rest, pause or end of a program is next where the run is being closed
no_ask : {A : Type 0} (first : Opening) (h : Journal) (t : Task) → (t ≡ finish → ⊥) → (t ≡ tell Bye → ⊥) → left_of first h ≡ t ∷ drop 1 (left_of first h)
    → (closed_tells h ≡ [] → given_of h ≡ planned_of h → A) → At first h → A
no_ask first h t a b next on (going e is) = on e is
no_ask first h t a b next on (to_finish e l w is) = absurd (a (head_is (left_of first h) t finish _ next l))
no_ask first h t a b next on (to_tell e l w p still is k) = absurd (b (head_is (left_of first h) t (tell Bye) _ next l))
no_ask first h t a b next on (over e l w p still d is k) = none_first (left_of first h) t next l

more_given : (ps given planned : List Piece) → given ≡ planned → given ++ ps ≡ planned ++ ps
more_given ps given planned is = ap (λ (qs : List Piece). qs ++ ps) is

still_going : (first : Opening) (h : Journal) (a : Action) (ps : List Piece) → closed_tells h ≡ [] → given_of h ≡ planned_of h → At first (did a ps ∷ h)
still_going first h a ps e is = going e (more_given ps (given_of h) (planned_of h) is)

on_take : (first : Opening) (h : Journal) (mode : Mode) (ps : List Piece) → Gives first.blocks (Take mode) ps (plan_of h) → At first h → At first (did (Take mode) ps ∷ h)
on_take first h mode ps gives (going e is) = going e (more_given ps (given_of h) (planned_of h) is)
on_take first h mode ps gives (to_finish e l w is) = to_finish e l w (more_given ps (given_of h) (planned_of h) is)
on_take first h mode ps gives (to_tell e l w p still is k) = absurd (none_taken first.blocks (plan_of h) mode ps (plan_after (Take mode) ps (plan_of h)) p.blocks gives)
on_take first h mode ps gives (over e l w p still d is k) = absurd (none_taken first.blocks (plan_of h) mode ps (plan_after (Take mode) ps (plan_of h)) p.blocks gives)

-- other overrides leave a plan at rest so
on_override : (first : Opening) (h : Journal) (o : Overrides) (ps : List Piece) → ps ≡ [] → At first h → At first (did (Override o) ps ∷ h)
on_override first h o ps none at = by_at at
  where
    keeps : (qs : List Piece) → qs ++ ps ≡ qs
    keeps qs = ap (λ (rs : List Piece). qs ++ rs) none ∙ append-nil qs

    by_at : At first h → At first (did (Override o) ps ∷ h)
    by_at (going e is) = going e (more_given ps (given_of h) (planned_of h) is)
    by_at (to_finish e l w is) = to_finish e l w (more_given ps (given_of h) (planned_of h) is)
    by_at (to_tell e l w p still is k) =
        to_tell e l w (record { blocks = p.blocks; speed = p.speed }) still
        (keeps (given_of h) ∙ is ∙ ap (λ (qs : List Piece). qs ++ pieces.End ∷ []) (sym (keeps (planned_of h))))
        (k ∙ sym (ap ticks_together (keeps (given_of h))))
    by_at (over e l w p still d is k) =
        over e l w (record { blocks = p.blocks; speed = p.speed }) still (keeps (hand_of h) ∙ d)
        (keeps (given_of h) ∙ is ∙ ap (λ (qs : List Piece). qs ++ pieces.End ∷ []) (sym (keeps (planned_of h))))
        (k ∙ sym (ap ticks_together (keeps (given_of h))))

on_did : (first : Opening) (h : Journal) (a : Action) (ps : List Piece) → MayDo first a h → Gives first.blocks a ps (plan_of h) → At first h → At first (did a ps ∷ h)
on_did first h (Add m) ps may gives at = no_ask first h (ask (a_move m)) (λ e. absurd cc) (λ e. absurd cc) may (still_going first h (Add m) ps) at
on_did first h (Mark m) ps may gives at = no_ask first h (ask (a_mark m)) (λ e. absurd cc) (λ e. absurd cc) may.next (still_going first h (Mark m) ps) at
on_did first h Rest ps may gives at = no_ask first h (ask a_rest) (λ e. absurd cc) (λ e. absurd cc) may.next (still_going first h Rest ps) at
on_did first h (Take Go) ps may gives at = on_take first h Go ps gives at
on_did first h (Take Hold) ps may gives at = on_take first h Hold ps gives at
on_did first h (Override o) ps may gives at =
    on_override first h o ps (none_given first.blocks (plan_after (Override o) ps (plan_of h)) (plan_after (Override o) ps (plan_of h)) ps gives.1) at
on_did first h Clear ps may gives at = absurd may
on_did first h Reset ps may gives at = absurd may

on_even : (first : Opening) (h : Journal) → MayEven first h → At first h → At first (evened ∷ h)
on_even first h may at = no_ask first h normal (λ e. absurd cc) (λ e. absurd cc) may.rests.next (λ e is. going e is) at

on_pause : (first : Opening) (h : Journal) → MayPause first h → At first h → At first (paused ∷ h)
on_pause first h may at = no_ask first h pause (λ e. absurd cc) (λ e. absurd cc) may.rests.next (λ e is. going e is) at

on_halt : (first : Opening) (h : Journal) → left_of first h ≡ halt ∷ drop 1 (left_of first h) → At first h → At first (halted ∷ h)
on_halt first h next at = no_ask first h halt (λ e. absurd cc) (λ e. absurd cc) next (λ e is. going e is) at

-- the end has no ticks
pub no_more_ticks : (ps : List Piece) → ticks_together (ps ++ pieces.End ∷ []) ≡ ticks_together ps
no_more_ticks ps = together_both ps (pieces.End ∷ []) ∙ plus_none (ticks_together ps)
  where
    plus_none : (n : ℕ) → n + 0 ≡ n
    plus_none n = omega arith

stands_so : (m : Motion) → stands_still m ≡ true → stands m ≡ true
stands_so motions.Idle is = refl
stands_so motions.Alarm is = refl
stands_so m is = absurd cc

on_end : (first : Opening) (h : Journal) → MayEnd first h → At first h → At first (made_end ∷ h)
on_end first h may (going e is) = absurd (may.closes e)
on_end first h may (to_finish e l w is) =
    to_tell e (rest_is (left_of first h) finish (tell Bye ∷ []) l) w may.drained.plan (stands_so (motion_of first h) may.stands) (more_given (pieces.End ∷ []) (given_of h) (planned_of h) is)
    (may.drained.done ∙ sym (no_more_ticks (given_of h)))
on_end first h may (to_tell e l w p still is k) = absurd (let f = head_is (left_of first h) finish (tell Bye) _ may.next l in cc)
on_end first h may (over e l w p still d is k) = none_first (left_of first h) finish may.next l

-- nothing more is found done where all is
on_load : (first : Opening) (h : Journal) (n : ℕ) → Conducted first h → MayBeDone n (port_log h) → At first h → At first (at_port (loaded n) ∷ h)
on_load first h n c may (going e is) = going e is
on_load first h n c may (to_finish e l w is) = to_finish e l w is
on_load first h n c may (to_tell e l w p still is k) = to_tell e l w p still is (all_known first h n c may k)
on_load first h n c may (over e l w p still d is k) = over e l w p still d is (all_known first h n c may k)

-- a machine that stands with nothing to run goes on standing
on_call : (first : Opening) (h : Journal) (call : Call) (m : Motion) → MayHappen first call h → StaysOrReaches m call (motion_of first h) → At first h → At first (became call m ∷ h)
on_call first h call m may how (going e is) = going e is
on_call first h call m may how (to_finish e l w is) = to_finish e l w is
on_call first h call m may how (to_tell e l w p still is k) = to_tell e l w p (calm_motion first h call m may p.blocks still how) is k
on_call first h call m may how (over e l w p still d is k) = over e l w p (calm_motion first h call m may p.blocks still how) d is k

-- so no jogs are cut there
on_cut : (first : Opening) (h : Journal) (k : ℕ) → motion_of first h ≡ motions.Cancelling → At first h → At first (cut k ∷ h)
on_cut first h k cancelled (going e is) = going e (more_given (pieces.Mark (marks.Cut k) ∷ []) (given_of h) (planned_of h) is)
on_cut first h k cancelled (to_finish e l w is) = to_finish e (ap without_asks l) w (more_given (pieces.Mark (marks.Cut k) ∷ []) (given_of h) (planned_of h) is)
on_cut first h k cancelled (to_tell e l w p still is k_known) = moved_on (motion_of first h) motions.Cancelling still cancelled refl
on_cut first h k cancelled (over e l w p still d is k_known) = moved_on (motion_of first h) motions.Cancelling still cancelled refl

pub phase_is : (first : Opening) (h : Journal) → Conducted first h → At first h
phase_is first [] c = going refl refl
phase_is first (at_port (took b) ∷ h) c = going c.0.polls.unclosed (unended first h c.0.polls.unclosed (phase_is first h c.1))
phase_is first (at_port (answered r) ∷ h) c = on_answer first h r c.0 (phase_is first h c.1)
phase_is first (at_port (published p) ∷ h) c = on_publish first h p c.0.0 (phase_is first h c.1)
phase_is first (at_port (loaded done) ∷ h) c = on_load first h done c.1 c.0 (phase_is first h c.1)
phase_is first (at_port (found_halt done) ∷ h) c = absurd c.0
phase_is first (began o ∷ h) c = going c.0.going (unended first h c.0.going (phase_is first h c.1))
phase_is first (did a ps ∷ h) c = on_did first h a ps c.0.0 c.0.1 (phase_is first h c.1)
phase_is first (made_end ∷ h) c = on_end first h c.0 (phase_is first h c.1)
phase_is first (evened ∷ h) c = on_even first h c.0 (phase_is first h c.1)
phase_is first (paused ∷ h) c = on_pause first h c.0 (phase_is first h c.1)
phase_is first (became call m ∷ h) c = on_call first h call m c.0.1 (reached call (motion_of first h) m c.0.0) (phase_is first h c.1)
phase_is first (cut k ∷ h) c = on_cut first h k c.0.cancelled (phase_is first h c.1)
phase_is first (halted ∷ h) c = on_halt first h c.0.next (phase_is first h c.1)
phase_is first (closing ∷ h) c = to_finish (ap (λ (rs : List Reply). rs ++ Bye ∷ []) c.0.going) refl c.0.begun (unended first h c.0.going (phase_is first h c.1))
phase_is first (_ ∷ h) c = phase_is first h c.1

-- Bye is told once
bye_at : (first : Opening) (h : Journal) → At first h → (closed_tells h ≡ []) ⊎ (closed_tells h ≡ Bye ∷ [])
bye_at first h (going e is) = inl e
bye_at first h (to_finish e l w is) = inr e
bye_at first h (to_tell e l w p still is k) = inr e
bye_at first h (over e l w p still d is k) = inr e

pub one_bye : (first : Opening) (h : Journal) → Conducted first h → (closed_tells h ≡ []) ⊎ (closed_tells h ≡ Bye ∷ [])
one_bye first h c = bye_at first h (phase_is first h c)

-- and the end given once, behind all that the plan gave
end_at : (first : Opening) (h : Journal) → At first h → (given_of h ≡ planned_of h) ⊎ (given_of h ≡ planned_of h ++ pieces.End ∷ [])
end_at first h (going e is) = inl is
end_at first h (to_finish e l w is) = inl is
end_at first h (to_tell e l w p still is k) = inr is
end_at first h (over e l w p still d is k) = inr is

pub one_end : (first : Opening) (h : Journal) → Conducted first h → (given_of h ≡ planned_of h) ⊎ (given_of h ≡ planned_of h ++ pieces.End ∷ [])
one_end first h c = end_at first h (phase_is first h c)

-- the end has no ticks
pub same_ticks : (first : Opening) (h : Journal) → At first h → ticks_given h ≡ ticks_together (planned_of h)
same_ticks first h (going e is) = ap ticks_together is
same_ticks first h (to_finish e l w is) = ap ticks_together is
same_ticks first h (to_tell e l w p still is k) = ap ticks_together is ∙ no_more_ticks (planned_of h)
same_ticks first h (over e l w p still d is k) = ap ticks_together is ∙ no_more_ticks (planned_of h)

-- the link was found closed before the run was, or a line has raised an alarm
abbrev IsCloseable : Journal → Type 0
IsCloseable h = (has_closed h ≡ true) ⊎ (has_limited h ≡ true)

pub closed_first : (first : Opening) (h : Journal) → Conducted first h → (closed_tells h ≡ []) ⊎ IsCloseable h
closed_first first [] c = inl refl
closed_first first (at_port (took b) ∷ h) c = inl c.0.polls.unclosed
closed_first first (at_port found_closed ∷ h) c = inr (inl refl)
closed_first first (began o ∷ h) c = inl c.0.going
closed_first first (closing ∷ h) c = inr c.0.closed
closed_first first (_ ∷ h) c = closed_first first h c.1

not_left : {A : Type 0} (ts : List Task) (t : Task) (us : List Task) → ts ≡ [] → ts ≡ t ∷ us → A
not_left ts t us none is = absurd (let e = sym none ∙ is in cc)

pub spent : (first : Opening) (h : Journal) → Conducted first h → IsFinished first h → IsSpent h
spent first h c f = by_phase (phase_is first h c) (closed_first first h c)
  where
    by_phase : At first h → (closed_tells h ≡ []) ⊎ IsCloseable h → IsSpent h
    by_phase (going e is) w = not_going (closed_tells h) f.closed e
    by_phase (to_finish e l w is) x = not_left (left_of first h) finish _ f.left l
    by_phase (to_tell e l w p still is k) x = not_left (left_of first h) (tell Bye) _ f.left l
    by_phase (over e l w p still d is k) (inl none) = not_going (closed_tells h) f.closed none
    by_phase (over e l w p still d is k) (inr closed) = record { plan = p; hand = d; given = is; done = k; whole = w; closed = closed }
