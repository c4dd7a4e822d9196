use Rattle.epoch_effects.proofs.Chain.{taken_once}
use Rattle.epoch_effects.proofs.laws.words_are_taken_once.Goals as goal

pub returns : goal.returns
returns c = taken_once
