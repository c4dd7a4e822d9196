use Rattle.epoch_effects.proofs.Asking.{epochs_ask}
use Rattle.epoch_effects.proofs.laws.lines_are_asked_in_turn.Goals as goal

pub returns : goal.returns
returns c = epochs_ask
