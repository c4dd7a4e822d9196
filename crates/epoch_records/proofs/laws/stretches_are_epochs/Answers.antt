use Rattle.epoch_records.proofs.Epochs.{stretches_put}
use Rattle.epoch_records.proofs.laws.stretches_are_epochs.Goals as goal

pub returns : goal.returns
returns c = stretches_put
