use Rattle.run_law.proofs.Changing.{words_were_raised}
use Rattle.run_law.proofs.Resetting.{taken_were_raised}
use Rattle.run_law.proofs.flags_that_are_taken_were_raised.Goals as goal

pub returns-clause-taken : goal.returns-clause-taken
returns-clause-taken c = taken_were_raised

pub returns-clause-changes : goal.returns-clause-changes
returns-clause-changes c = words_were_raised
