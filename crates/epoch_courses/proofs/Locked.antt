-- Where no reply is next, a machine that stands in alarm is one that no line has unlocked.
use Rattle.std.proofs.Common.{◌≡◌, ◌⊎◌, inl, inr, Bool, true, false, List, [], ◌∷◌, drop, refl, sym, ap, ◌∙◌, subst}
use Rattle.feed_hold.specs.declared.Motion.{Motion}
use Rattle.feed_hold.specs.declared.Motion.TheVariants as motions
use Rattle.feed_hold.specs.Motions.{Call}
use Rattle.feed_hold.specs.Motions.Call.{on_limit}
use Rattle.feed_hold.proofs.Reaching.{StaysOrReaches, reached}
use Rattle.planner_runs.specs.declared.Action.{Action}
use Rattle.planner_runs.specs.declared.Action.TheVariants.{Add, Mark, Rest}
use Rattle.run_rules.specs.Work.{Task, Outcome, telling}
use Rattle.run_rules.specs.Work.Task.{ask, normal, finish, halt}
use Rattle.status_report.specs.declared.Reply.{Reply}
use Rattle.step_line.specs.Asking.Asked.{a_move, a_mark, a_rest}
use Rattle.step_line.specs.declared.Piece.{Piece}
use Rattle.board_rules.specs.Conduct.{Conducted, MayDo, MayHappen, IsLocked}
use Rattle.board_journal.specs.Openings.{Opening}
use Rattle.board_journal.specs.Ports.PortStep.{answered}
use Rattle.board_journal.specs.Steps.{Step, Journal, has_limited, left_of, motion_of}
use Rattle.board_journal.specs.Steps.Step.{at_port, began, did, made_end, evened, paused, became, cut, halted, closing, turned}
use Rattle.board_rules.specs.Turns.{is_alarm, is_limited, is_locked, tells_next}
use Rattle.board_rules.proofs.Alarms.{opposite, still_locked, limited_alarmed}
use Rattle.board_rules.proofs.Locking.{locked_stands}
use Rattle.board_rules.proofs.Phases.{Ends}
use Rattle.board_rules.proofs.Unlocking.{told_before}
use Rattle.epoch_courses.proofs.Answered.{ends_there}

abbrev LockedOrTold : Opening → Journal → Type 0
LockedOrTold first h = (is_locked first h ≡ true) ⊎ (tells_next (left_of first h) ≡ true)

ends_told : (rs : List Reply) → Ends (telling rs) → tells_next (telling rs) ≡ true
ends_told [] ends = absurd ends
ends_told (r ∷ rs) ends = refl

begun_told : (first : Opening) (h : Journal) (o : Outcome) → Conducted first (began o ∷ h) → has_limited (began o ∷ h) ≡ false → motion_of first h ≡ motions.Alarm → LockedOrTold first (began o ∷ h)
begun_told first h o c none alarm =
    let still = still_locked first h o c alarm in
    inr (ap tells_next still.work ∙ ends_told still.said (subst Ends still.work (ends_there first (began o ∷ h) c none refl)))

-- a task that tells nothing is not next there
unlocked_still : (first : Opening) (s : Step) (h : Journal) (t : Task) → left_of first h ≡ t ∷ drop 1 (left_of first h) → tells_next (t ∷ drop 1 (left_of first h)) ≡ false → is_locked first (s ∷ h) ≡ is_locked first h
    → LockedOrTold first h → LockedOrTold first (s ∷ h)
unlocked_still first s h t next other same (inl locked) = inl (same ∙ locked)
unlocked_still first s h t next other same (inr told) = opposite (tells_next (left_of first h)) told (ap tells_next next ∙ other)

on_did : (first : Opening) (h : Journal) (a : Action) (ps : List Piece) → MayDo first a h → LockedOrTold first h → LockedOrTold first (did a ps ∷ h)
on_did first h (Add m) ps may is = unlocked_still first (did (Add m) ps) h (ask (a_move m)) may refl refl is
on_did first h (Mark m) ps may is = unlocked_still first (did (Mark m) ps) h (ask (a_mark m)) may.next refl refl is
on_did first h Rest ps may is = unlocked_still first (did Rest ps) h (ask a_rest) may.next refl refl is
on_did first h _ ps may is = is

-- it comes to stand in alarm only where it was, or by a soft limit
alarm_was : (first : Opening) (h : Journal) (call : Call) → Conducted first h → has_limited h ≡ false → MayHappen first call h → StaysOrReaches motions.Alarm call (motion_of first h) → motion_of first h ≡ motions.Alarm
alarm_was first h call c none may (inl same) = sym same
alarm_was first h call c none may (inr (inl (idle, is))) = let limits : MayHappen first on_limit h = subst (λ (x : Call). MayHappen first x h) is may in opposite (has_limited h) limits.alarmed none
alarm_was first h call c none may (inr (inr (stops, is))) = by_limit (limited_alarmed first h c (ap is_limited stops))
  where
    by_limit : (has_limited h ≡ true) ⊎ IsLocked first h → motion_of first h ≡ motions.Alarm
    by_limit (inl one) = opposite (has_limited h) one none
    by_limit (inr locked) = locked.1

closed_none : (first : Opening) (h : Journal) → left_of first h ≡ [] → LockedOrTold first h → LockedOrTold first (closing ∷ h)
closed_none first h free (inl locked) = inl locked
closed_none first h free (inr told) = opposite (tells_next (left_of first h)) told (ap tells_next free)

alarm_told : (first : Opening) (h : Journal) → Conducted first h → has_limited h ≡ false → motion_of first h ≡ motions.Alarm → LockedOrTold first h
alarm_told first [] c none alarm = inl (ap (λ (m : Motion). is_locked (record first { motion = m }) []) alarm)
alarm_told first (at_port (answered r) ∷ h) c none alarm = inl (told_before first h r c alarm none)
alarm_told first (at_port e ∷ h) c none alarm = alarm_told first h c.1 none alarm
alarm_told first (began o ∷ h) c none alarm = begun_told first h o c none alarm
alarm_told first (did a ps ∷ h) c none alarm = on_did first h a ps c.0.0 (alarm_told first h c.1 none alarm)
alarm_told first (made_end ∷ h) c none alarm = unlocked_still first made_end h finish c.0.next refl refl (alarm_told first h c.1 none alarm)
alarm_told first (evened ∷ h) c none alarm = unlocked_still first evened h normal c.0.rests.next refl refl (alarm_told first h c.1 none alarm)
alarm_told first (paused ∷ h) c none alarm = absurd cc
alarm_told first (became call m ∷ h) c none alarm =
    alarm_told first h c.1 none (alarm_was first h call c.1 none c.0.1 (subst (λ (x : Motion). StaysOrReaches x call (motion_of first h)) alarm (reached call (motion_of first h) m c.0.0)))
alarm_told first (cut k ∷ h) c none alarm = absurd (let e = sym alarm ∙ c.0.cancelled in cc)
alarm_told first (halted ∷ h) c none alarm = unlocked_still first halted h halt c.0.next refl refl (alarm_told first h c.1 none alarm)
alarm_told first (closing ∷ h) c none alarm = closed_none first h c.0.free (alarm_told first h c.1 none alarm)
alarm_told first (turned t ∷ h) c none alarm = alarm_told first h c.1 none alarm

pub alarm_is : (first : Opening) (h : Journal) → Conducted first h → has_limited h ≡ false → tells_next (left_of first h) ≡ false → is_alarm (motion_of first h) ≡ is_locked first h
alarm_is first h c none untold = by_lock (is_locked first h) refl
  where
    by_motion : (m : Motion) → motion_of first h ≡ m → is_locked first h ≡ false → is_alarm m ≡ false
    by_motion motions.Alarm is free = by_told (alarm_told first h c none is)
      where
        by_told : LockedOrTold first h → is_alarm motions.Alarm ≡ false
        by_told (inl locked) = opposite (is_locked first h) locked free
        by_told (inr told) = opposite (tells_next (left_of first h)) told untold
    by_motion _ is free = refl

    by_lock : (t : Bool) → is_locked first h ≡ t → is_alarm (motion_of first h) ≡ is_locked first h
    by_lock true is = ap is_alarm (locked_stands first h c is) ∙ sym is
    by_lock false is = by_motion (motion_of first h) refl is ∙ sym is
