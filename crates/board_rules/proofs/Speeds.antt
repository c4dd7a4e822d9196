-- A machine that stands has no speed.
use Rattle.std.proofs.Common.{◌≡◌, Bool, true, false, ◌&&◌, not, List, [], ◌∷◌, Some, None, sym, refl, ap, ◌∙◌}
use Rattle.std.specs.declared.option.Option.{Option}
use Rattle.feed_hold.specs.declared.Motion.{Motion}
use Rattle.feed_hold.specs.declared.Motion.TheVariants.{Idle, Run, Holding, Held, Jog, Cancelling, Stopping, Alarm}
use Rattle.feed_hold.specs.Motions.{Call, after, after_hold, after_cancel, after_start, asks, hold_byte, cancel_byte, start_byte, is_stopping}
use Rattle.feed_hold.specs.Motions.Call.{on_exec, on_start, on_limit, on_pause, on_stopped, on_drained, on_unlock}
use Rattle.planner_runs.specs.declared.Action.{Action}
use Rattle.planner_runs.specs.declared.Action.TheVariants.{Take, Clear, Reset}
use Rattle.plan_rules.specs.declared.Mode.TheVariants.{Go, Hold}
use Rattle.step_line.specs.declared.Piece.{Piece}
use Rattle.board_journal.specs.Openings.{Opening}
use Rattle.board_journal.specs.Steps.{Journal, plan_after, plan_of, motion_of}
use Rattle.board_journal.specs.Steps.Step.{did, paused, became, cut, halted}
use Rattle.board_rules.specs.Turns.{is_going}
use Rattle.board_rules.specs.Conduct.{Conducted, MayDo, MayHappen}

-- it stands, is held, or is in alarm
abbrev pub rests : Motion → Bool
rests Idle = true
rests Held = true
rests Alarm = true
rests m = false

abbrev rests_in : Option Motion → Bool
rests_in (Some m) = rests m
rests_in None = false

-- ---- the calls behind which it does

start_rests : (jog : Bool) (was : Motion) → rests_in (after (on_start jog) was) ≡ false
start_rests true Idle = refl
start_rests true _ = refl
start_rests false Idle = refl
start_rests false _ = refl

limit_rests : (was : Motion) → rests_in (after on_limit was) ≡ true → rests was ≡ true
limit_rests Idle is = refl
limit_rests _ is = absurd cc

hold_rests : (asked : Bool) (was : Motion) → rests (after_hold asked was) ≡ true → rests was ≡ true
hold_rests false was is = is
hold_rests true Idle is = refl
hold_rests true Held is = refl
hold_rests true Alarm is = refl
hold_rests true _ is = absurd cc

cancel_rests : (asked : Bool) (was : Motion) → rests (after_cancel asked was) ≡ true → rests was ≡ true
cancel_rests false was is = is
cancel_rests true Idle is = refl
cancel_rests true Held is = refl
cancel_rests true Alarm is = refl
cancel_rests true _ is = absurd cc

resume_rests : (asked queued : Bool) (was : Motion) → rests (after_start asked queued was) ≡ true → rests was ≡ true
resume_rests false queued was is = is
resume_rests true true Idle is = refl
resume_rests true true Held is = refl
resume_rests true true Alarm is = refl
resume_rests true true _ is = absurd cc
resume_rests true false Idle is = refl
resume_rests true false Held is = refl
resume_rests true false Alarm is = refl
resume_rests true false _ is = absurd cc

word_rests : (hold cancel start queued : Bool) (was : Motion) → rests (after_start start queued (after_cancel cancel (after_hold hold was))) ≡ true → rests was ≡ true
word_rests hold cancel start queued was is = hold_rests hold was (cancel_rests cancel (after_hold hold was) (resume_rests start queued (after_cancel cancel (after_hold hold was)) is))

-- ---- its speed

abbrev HasNoSpeed : Opening → Journal → Type 0
HasNoSpeed first h = rests (motion_of first h) ≡ true → (plan_of h).speed ≡ 0

unlock_rests : (was m : Motion) → after on_unlock was ≡ Some m → rests was ≡ true
unlock_rests Alarm m e = refl
unlock_rests was m e = absurd cc

happened : (first : Opening) (h : Journal) (call : Call) (m : Motion) → after call (motion_of first h) ≡ Some m → MayHappen first call h → HasNoSpeed first h → rests m ≡ true → (plan_of h).speed ≡ 0
happened first h (on_start jog) m then may none is = absurd (let e = sym (start_rests jog (motion_of first h)) ∙ ap rests_in then ∙ is in cc)
happened first h on_drained m then may none is = may.plan.speed
happened first h (on_exec word queued) m then may none is =
    none (word_rests (asks word hold_byte) (asks word cancel_byte) (asks word start_byte && not (asks word hold_byte)) queued (motion_of first h) (ap rests_in then ∙ is))
happened first h on_limit m then may none is = none (limit_rests (motion_of first h) (ap rests_in then ∙ is))
happened first h on_pause m then may none is = absurd may
happened first h on_stopped m then may none is = may.stopped.slowed.speed
happened first h on_unlock m then may none is = none (unlock_rests (motion_of first h) m then)

going_off : (m : Motion) → is_going m ≡ true → rests m ≡ false
going_off Run is = refl
going_off Jog is = refl
going_off _ is = absurd cc

stopping_off : (m : Motion) → is_stopping m ≡ true → rests m ≡ false
stopping_off Holding is = refl
stopping_off Cancelling is = refl
stopping_off Stopping is = refl
stopping_off _ is = absurd cc

did_then : (first : Opening) (h : Journal) (a : Action) (ps : List Piece) → MayDo first a h → HasNoSpeed first h → rests (motion_of first h) ≡ true → (plan_after a ps (plan_of h)).speed ≡ 0
did_then first h (Take Go) ps may none is = absurd (let e = sym is ∙ going_off (motion_of first h) may.goes in cc)
did_then first h (Take Hold) ps may none is = absurd (let e = sym is ∙ stopping_off (motion_of first h) may.slows in cc)
did_then first h Clear ps may none is = absurd may
did_then first h Reset ps may none is = absurd may
did_then first h _ ps may none is = none is

pub no_speed : (first : Opening) (h : Journal) → Conducted first h → HasNoSpeed first h
no_speed first [] c is = refl
no_speed first (did a ps ∷ h) c is = did_then first h a ps c.0.0 (no_speed first h c.1) is
no_speed first (paused ∷ h) c is = no_speed first h c.1 (ap rests c.0.rests.stands)
no_speed first (became call m ∷ h) c is = happened first h call m c.0.0 c.0.1 (no_speed first h c.1) is
no_speed first (cut k ∷ h) c is = refl
no_speed first (halted ∷ h) c is = refl
no_speed first (_ ∷ h) c is = no_speed first h c.1 is
