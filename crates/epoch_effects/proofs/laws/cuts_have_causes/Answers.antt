use Rattle.epoch_effects.proofs.Causes.{cuts_caused}
use Rattle.epoch_effects.proofs.laws.cuts_have_causes.Goals as goal

pub returns : goal.returns
returns c = cuts_caused
