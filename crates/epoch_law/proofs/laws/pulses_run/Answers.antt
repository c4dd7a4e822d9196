use Rattle.epoch_law.proofs.Having.{pulse_runs}
use Rattle.epoch_law.proofs.laws.pulses_run.Goals as goal

pub returns : goal.returns
returns c = pulse_runs
