use Rattle.epoch_law.proofs.Having.{pulse_ran}
use Rattle.epoch_law.proofs.laws.pulses_have_run.Goals as goal

pub returns : goal.returns
returns c = pulse_ran
