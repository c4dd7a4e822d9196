-- A pulse and a recorder that have done their work have run.
use Rattle.std.proofs.Common.{◌≡◌, Bool, true, false, ◌&&◌, refl}
use Rattle.outside.specs.Causes.{SinkState}
use Rattle.step_record.specs.Taking.{Log, records}
use Rattle.step_record.specs.declared.forms.Form.{Form}
use Rattle.step_record.specs.Recording.{Recording, RecorderFits, Rests, waits}
use Rattle.step_record.proofs.Turns.{has_wrote, has_took}
use Rattle.run_law.specs.Ran.{RecorderRan}
use Rattle.run_law.specs.SoFar.{RecorderRuns}

pub recorder_ran : (form : Form) (v : Recording) (log : Log) (was is : SinkState) → RecorderFits form v log was is → Rests v → RecorderRan form was is (records log) v.writer.failed
recorder_ran form v log was is f rests = record { ended = f.over (first_true v.writer.asked _ rests); steps = has_took form v log was is f rests }
  where
    first_true : (b c : Bool) → (b && c) ≡ true → b ≡ true
    first_true true c e = refl
    first_true false c e = absurd cc

pub recorder_runs : (form : Form) (v : Recording) (log : Log) (was is : SinkState) → RecorderFits form v log was is → RecorderRuns form was is (records log)
recorder_runs form v log was is f = record { failed = v.writer.failed; waiting = waits v; steps = has_wrote form v log was is f }
