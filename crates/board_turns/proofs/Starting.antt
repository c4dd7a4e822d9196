-- What queued blocks start: the cycle, or a jog.
use Rattle.std.proofs.Common.{◌-◌, ℕ, ◌≡◌, ◌≤◌, Bool, true, false, ◌&&◌, refl, arith, sym, ap, ◌∙◌}
use Rattle.feed_hold.specs.declared.Motion.TheVariants as motions
use Rattle.board_journal.specs.Openings.{Opening}
use Rattle.board_journal.specs.Steps.{Journal, motion_of, plan_of}
use Rattle.board_rules.specs.Cuts.{has_cut, is_cancelling}
use Rattle.board_rules.specs.Turns.{is_alarm, is_halting, begins_in, is_full}
use Rattle.board_machine.specs.Machines.{start_motion}
use Rattle.board_turns.specs.Boards.{changes_left, Keeps}
use Rattle.board_turns.specs.declared.board.Board.{Board}

-- the machine does not stand
pub starts_off : {A : Type 0} (jog : Bool) → start_motion jog ≡ motions.Idle → A
starts_off false is = absurd cc
starts_off true is = absurd cc

-- it is not held, nor slows down for that, nor is a jog cancelled
pub starts_going : (jog : Bool) → is_halting (start_motion jog) ≡ false
starts_going false = refl
starts_going true = refl

-- lines may be begun
pub starts_to_begin : (jog : Bool) → begins_in (start_motion jog) ≡ true
starts_to_begin false = refl
starts_to_begin true = refl

pub none_left_to_change : (first : Opening) (jog : Bool) (h : Journal) → changes_left (start_motion jog) (is_cancelling (start_motion jog) && has_cut h) ≤ changes_left (motion_of first h) (has_cut h)
none_left_to_change first false h = omega arith
none_left_to_change first true h = omega arith

-- a start cuts nothing
pub uncut_started : (jog was : Bool) → was ≡ false → was ≡ (is_cancelling (start_motion jog) && was)
uncut_started jog true is = absurd cc
uncut_started true false is = refl
uncut_started false false is = refl

-- nor does it lead to an alarm
pub none_awaited_started : (jog awaits : Bool) → (is_alarm (start_motion jog) && awaits) ≡ false
none_awaited_started true awaits = refl
none_awaited_started false awaits = refl

-- a plan is full by the fields exactly where it is by the rules
pub full_is : {N : ℕ} (first : Opening) (b : Board N) (h : Journal) → Keeps first b h → is_full (N - 1) b.machine.plan ≡ is_full first.blocks (plan_of h)
full_is {N} first b h k = ap (is_full (N - 1)) k.machine.plan_is ∙ ap (λ n. is_full n (plan_of h)) (sym k.sized)
