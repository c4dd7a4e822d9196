use Rattle.epoch_law.proofs.Connecting.{connected}
use Rattle.epoch_law.proofs.laws.linked_ends_are_connected.Goals as goal

pub returns : goal.returns
returns c = connected
