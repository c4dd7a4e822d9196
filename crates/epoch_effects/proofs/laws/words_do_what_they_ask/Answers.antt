use Rattle.epoch_effects.proofs.Chain.{effects_are}
use Rattle.epoch_effects.proofs.laws.words_do_what_they_ask.Goals as goal

pub returns : goal.returns
returns c = effects_are
