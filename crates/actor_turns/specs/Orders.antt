-- A run of a job in an order of turns.
use Rattle.std.specs.Prelude.{◌≡◌, ℕ, ◌-◌, Bool, length}
use Rattle.step_record.specs.declared.forms.Form.{Form}
use Rattle.run_law.specs.declared.RunEnd.{RunEnd}
use Rattle.motion_pulse.specs.declared.pulse.Stepping.{Stepping}
use Rattle.motion_pulse.specs.Pulses.{pins_by_heads}
use Rattle.actor_turns.specs.Worlds.{Seen, History, Devices, Holds, Stands, AreDone, HasRunAlone, no_history, pins_in, end_after}
use Rattle.actor_turns.specs.Lockstep.{RunsInOrder}
use Rattle.actor_turns.specs.Pacing.{RunsPaced}

-- In a world in which nothing was done, whose host is attended or not, whose link has room for so many bytes, whose plan has so many slots
-- and whose pulse steps the machine so, the actors take their turns, in this order, until all four are done. Then a run of the job was
-- done, whose steps have this form and each of whose lines has at most as many reports as it has `?` where the host is not attended, and
-- it ends as this world tells.
pub record IsRunBy (attended : Bool) (room N : ℕ) (form : Form) (stepping : Stepping) (Goes : Seen N → Seen N → Type 0) (was now : Devices) (end : RunEnd) : Type 0 where
  pub first : Seen N
  pub last : Seen N
  pub roomy : first.room ≡ room
  pub begins : (at : Devices) → Stands form at at first (no_history attended stepping)
  pub order : Goes first last
  pub done : AreDone last
  pub ends : (hist : History) → Holds last hist → end ≡ end_after last hist
  pub run : HasRunAlone attended room (N - 1) form was now end

-- in the order that a seed gives
abbrev pub IsLockstepRun : (attended : Bool) (room slots : ℕ) → Form → Stepping → ℕ → Devices → Devices → RunEnd → Type 0
IsLockstepRun attended room slots form stepping seed was now end = IsRunBy attended room slots form stepping (RunsInOrder seed was now) was now end

-- at a pace: the motion behind all else
abbrev pub IsPacedRun : (attended : Bool) (room slots : ℕ) → Form → Stepping → Devices → Devices → RunEnd → Type 0
IsPacedRun attended room slots form stepping was now end = IsRunBy attended room slots form stepping (RunsPaced was now) was now end

-- In the order that a seed gives, and so many subticks were handed out: where no reset ends an epoch, those of the heads of the records.
pub record IsCountedRun (attended : Bool) (room slots : ℕ) (form : Form) (stepping : Stepping) (seed : ℕ) (was now : Devices) (end : RunEnd) (pins : ℕ) : Type 0 where
  pub runs : IsLockstepRun attended room slots form stepping seed was now end
  pub pins_are : (hist : History) → Holds runs.last hist → pins ≡ pins_in hist
  pub counted : length runs.run.run.epochs ≡ 1 → pins ≡ pins_by_heads stepping runs.run.run.records
