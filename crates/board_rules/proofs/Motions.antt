-- The motion is idle, runs, slows down for a hold, is held, jogs, or a jog is cancelled, until a line raises an alarm.
use Rattle.std.proofs.Common.{◌≡◌, ◌⊎◌, inl, inr, false, true, sym, refl, ◌∙◌}
use Rattle.feed_hold.specs.declared.Motion.{Motion}
use Rattle.feed_hold.specs.declared.Motion.TheVariants.{Idle, Run, Holding, Held, Jog, Cancelling, Stopping, Alarm}
use Rattle.feed_hold.specs.Motions.{is_stopping}
use Rattle.board_journal.specs.Openings.{Opening}
use Rattle.board_journal.specs.Steps.{Journal, has_limited, motion_of}
use Rattle.board_rules.specs.Turns.{is_limited}
use Rattle.board_rules.specs.Conduct.{Conducted, IsLocked}
use Rattle.board_rules.proofs.Alarms.{limited_alarmed, unlimited_calm}

abbrev pub IsPlain : Motion → Type 0
IsPlain m = (m ≡ Idle) ⊎ ((m ≡ Run) ⊎ ((m ≡ Holding) ⊎ ((m ≡ Held) ⊎ ((m ≡ Jog) ⊎ (m ≡ Cancelling)))))

is_plain : (m : Motion) → is_limited m ≡ false → IsPlain m
is_plain Idle is = inl refl
is_plain Run is = inr (inl refl)
is_plain Holding is = inr (inr (inl refl))
is_plain Held is = inr (inr (inr (inl refl)))
is_plain Jog is = inr (inr (inr (inr (inl refl))))
is_plain Cancelling is = inr (inr (inr (inr (inr refl))))
is_plain Stopping is = absurd cc
is_plain Alarm is = absurd cc

pub motion_is : (first : Opening) (h : Journal) → Conducted first h → has_limited h ≡ false → IsLocked first h ⊎ IsPlain (motion_of first h)
motion_is first h c none = by_free (unlimited_calm first h c none)
  where
    by_free : (is_limited (motion_of first h) ≡ false) ⊎ IsLocked first h → IsLocked first h ⊎ IsPlain (motion_of first h)
    by_free (inl is) = inr (is_plain (motion_of first h) is)
    by_free (inr locked) = inl locked

-- what a machine slows down for: a hold, a cancel, or an alarm
abbrev pub SlowsFor : Opening → Journal → Type 0
SlowsFor first h = (motion_of first h ≡ Holding) ⊎ ((motion_of first h ≡ Cancelling) ⊎ ((motion_of first h ≡ Stopping) × (has_limited h ≡ true)))

slowing_of : (first : Opening) (h : Journal) (m : Motion) → motion_of first h ≡ m → (is_limited m ≡ true → (has_limited h ≡ true) ⊎ IsLocked first h) → is_stopping m ≡ true → SlowsFor first h
slowing_of first h Holding is limits slows = inl is
slowing_of first h Cancelling is limits slows = inr (inl is)
slowing_of first h Stopping is limits slows = by_limit (limits refl)
  where
    by_limit : (has_limited h ≡ true) ⊎ IsLocked first h → SlowsFor first h
    by_limit (inl alarmed) = inr (inr (is, alarmed))
    by_limit (inr locked) = absurd (let e = sym is ∙ locked.1 in cc)
slowing_of first h _ is limits slows = absurd cc

pub slows_for : (first : Opening) (h : Journal) → Conducted first h → is_stopping (motion_of first h) ≡ true → SlowsFor first h
slows_for first h c slows = slowing_of first h (motion_of first h) refl (limited_alarmed first h c) slows
