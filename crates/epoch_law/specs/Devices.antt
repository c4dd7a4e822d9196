-- That a run of a job was done over its devices, and what they tell then.
use Rattle.std.specs.Prelude.{ℕ, Bool}
use Rattle.run_law.specs.declared.RunEnd.{RunEnd}
pub use Rattle.run_law.specs.Devices.{Devices, devices, sinks}
use Rattle.step_record.specs.declared.forms.Form.{Form}
use Rattle.epoch_law.specs.Runs.{IsRun}
use Rattle.epoch_law.specs.SoFar.{IsSoFar}

-- what was done since a moment is a run so far, at a link that has room for so many bytes, with a plan of so many blocks
abbrev pub RunsSoFar : (attended : Bool) (room blocks : ℕ) → Form → Devices → Devices → Type 0
RunsSoFar attended room blocks form was now = IsSoFar attended room blocks form was.job now.job (sinks was) (sinks now)

-- it is a run of the job whose steps have a form, and ends so
abbrev pub HasRun : (attended : Bool) (room blocks : ℕ) → Form → Devices → Devices → RunEnd → Type 0
HasRun attended room blocks form was now end = IsRun attended room blocks form was.job now.job (sinks was) (sinks now) end
