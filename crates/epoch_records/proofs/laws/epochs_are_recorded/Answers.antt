use Rattle.epoch_records.proofs.Over.{are_recorded}
use Rattle.epoch_records.proofs.laws.epochs_are_recorded.Goals as goal

pub returns : goal.returns
returns c = are_recorded
