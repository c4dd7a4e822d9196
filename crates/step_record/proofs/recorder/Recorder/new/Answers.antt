use Rattle.step_record.proofs.Turns.{fits_fresh}
use Rattle.step_record.proofs.recorder.Recorder.new.Goals as goal

pub returns-clause-fits : goal.returns-clause-fits
returns-clause-fits c = rw c.begun_in.ensures (fits_fresh c.args.form)
