use Rattle.reset_work.proofs.Parting.{halted_there, made_there}
use Rattle.reset_work.proofs.laws.resets_halt_their_epoch.Goals as goal

pub returns-clause-halted : goal.returns-clause-halted
returns-clause-halted c = halted_there

pub returns-clause-made : goal.returns-clause-made
returns-clause-made c = made_there
