-- A machine that was locked is unlocked behind the line that unlocks it, before that is told.
use Rattle.std.proofs.Common.{◌≡◌, ◌⊎◌, inl, inr, Bool, true, false, not, ◌&&◌, [], ◌∷◌, refl, sym, ap, Some}
use Rattle.feed_hold.specs.declared.Motion.{Motion}
use Rattle.feed_hold.specs.declared.Motion.TheVariants as motions
use Rattle.feed_hold.specs.Motions.{after}
use Rattle.feed_hold.specs.Motions.Call.{on_unlock}
use Rattle.run_rules.specs.Work.{Outcome, is_limit, asks}
use Rattle.status_report.specs.declared.Reply.{Reply}
use Rattle.board_journal.specs.Openings.{Opening}
use Rattle.board_journal.specs.Ports.PortStep.{answered}
use Rattle.board_journal.specs.Steps.{Journal, has_limited, before_of, motion_of}
use Rattle.board_journal.specs.Steps.Step.{at_port, began, became}
use Rattle.board_rules.specs.Turns.{is_alarm, is_limited, is_locked}
use Rattle.board_rules.specs.Conduct.{Conducted, IsLocked}
use Rattle.board_rules.proofs.Alarms.{opposite, limited_alarmed, still_locked}
use Rattle.board_rules.proofs.Locking.{locked_stands}

leads : (was m : Motion) → after on_unlock was ≡ Some m → (was ≡ motions.Alarm) × (m ≡ motions.Idle)
leads motions.Alarm m e = (refl, let f : motions.Idle ≡ m = cc in sym f)
leads was m e = absurd cc

was_locked : (first : Opening) (h : Journal) → has_limited h ≡ false → (has_limited h ≡ true) ⊎ IsLocked first h → first.motion ≡ motions.Alarm
was_locked first h none (inl one) = opposite (has_limited h) one none
was_locked first h none (inr locked) = locked.0

pub unlocks : (first : Opening) (h : Journal) (m : Motion) → Conducted first (became on_unlock m ∷ h)
    → (motion_of first h ≡ motions.Alarm) × (m ≡ motions.Idle) × (is_locked first h ≡ false) × (has_limited h ≡ false) × (first.motion ≡ motions.Alarm)
unlocks first h m c =
    let l = leads (motion_of first h) m c.0.0 in
    (l.0, l.1, c.0.1.unlocked, c.0.1.calm, was_locked first h c.0.1.calm (limited_alarmed first h c.1 (ap is_limited l.0)))

told_locked : (alarm locked limited : Bool) → alarm ≡ true → limited ≡ false → (alarm && (not locked && not limited)) ≡ false → locked ≡ true
told_locked alarm true limited is none waits = refl
told_locked true false false is none waits = absurd cc
told_locked true false true is none waits = absurd cc
told_locked false false limited is none waits = absurd cc

pub told_before : (first : Opening) (h : Journal) (r : Reply) → Conducted first (at_port (answered r) ∷ h) → motion_of first h ≡ motions.Alarm → has_limited h ≡ false → is_locked first h ≡ true
told_before first h r c alarm none = told_locked (is_alarm (motion_of first h)) (is_locked first h) (has_limited h) (ap is_alarm alarm) none c.0.unlocked

pub asks_nothing : (first : Opening) (h : Journal) (o : Outcome) → Conducted first (began o ∷ h) → is_locked first h ≡ true
    → (asks o.work ≡ []) × (is_limit o.answer ≡ false) × (o.next.parser ≡ (before_of first h).state.parser)
asks_nothing first h o c locked = let s = still_locked first h o c (locked_stands first h c.1 locked) in (s.asks, s.calm, s.parser)
