use Rattle.epoch_records.proofs.SoFar.{made_so_far}
use Rattle.epoch_records.proofs.laws.epochs_are_made_so_far.Goals as goal

pub returns : goal.returns
returns c = made_so_far
