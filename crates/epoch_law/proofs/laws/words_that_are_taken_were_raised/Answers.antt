use Rattle.epoch_law.proofs.Connecting.{words_raised}
use Rattle.epoch_law.proofs.laws.words_that_are_taken_were_raised.Goals as goal

pub returns : goal.returns
returns c = words_raised
