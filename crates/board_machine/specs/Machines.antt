-- What the fields of a machine say of its plan, its motion, and the pieces that were given.
use Rattle.std.specs.Prelude.{◌≡◌, ℕ, ◌⊎◌, Bool, cond, List, [], ◌∷◌}
use Rattle.std.specs.Option.{option_to_list}
use Rattle.feed_hold.specs.declared.Motion.{Motion}
use Rattle.feed_hold.specs.declared.Motion.TheVariants as motions
use Rattle.plan_rules.specs.declared.Mode.{Mode}
use Rattle.plan_rules.specs.declared.Mode.TheVariants.{Go, Hold}
use Rattle.plan_rules.specs.Plans.{Planned}
use Rattle.step_line.specs.declared.Piece.{Piece}
use Rattle.step_line.specs.Finishing.{ticks_together}
pub use Rattle.planner_runs.specs.Runs.{marks_cut}
use Rattle.planner_runs.specs.Moving.{has_blocks}
use Rattle.board_machine.specs.declared.machine.Machine.{Machine}

-- the plan, the state of the motion, the pieces in hand, and all pieces that were given
pub record Runs {N : ℕ} (m : Machine N) (p : Planned) (now : Motion) (in_hand given : List Piece) : Type 0 where
  pub plan_is : m.plan ≡ p
  pub same : p.overrides ≡ m.overrides
  pub motion_is : m.hold.motion ≡ now
  pub hand_is : option_to_list m.hand ≡ in_hand
  pub given_is : m.given ≡ ticks_together given

-- it stands, or carries out moves or jogs that were not cancelled
abbrev pub StandsOrGoes : Motion → Type 0
StandsOrGoes m = (m ≡ motions.Idle) ⊎ ((m ≡ motions.Run) ⊎ (m ≡ motions.Jog))

-- what queued blocks start, as a jog or not
abbrev pub start_motion : Bool → Motion
start_motion jog = cond jog motions.Jog motions.Run

-- a soft limit stops a machine that runs, or stands
abbrev pub limit_motion : Motion → Motion
limit_motion motions.Run = motions.Stopping
limit_motion _ = motions.Alarm

-- segments are taken to slow down where the machine is to stop
abbrev pub mode_in : Motion → Mode
mode_in motions.Holding = Hold
mode_in motions.Cancelling = Hold
mode_in motions.Stopping = Hold
mode_in _ = Go

-- The state of the motion behind a look at the done ticks, where nothing is in hand, each that was given is done, and the
-- machine does not slow down to a stop: the cycle is over, or the jogs are, where no block is left.
abbrev pub settled : Motion → Planned → Motion
settled motions.Run p = cond (has_blocks p.blocks) motions.Run motions.Idle
settled motions.Jog p = cond (has_blocks p.blocks) motions.Jog motions.Idle
settled m p = m

abbrev pub observed : Motion → Planned → List Piece → Bool → Motion
observed m p [] all_done = cond all_done (settled m p) m
observed m p (piece ∷ pieces) all_done = m
