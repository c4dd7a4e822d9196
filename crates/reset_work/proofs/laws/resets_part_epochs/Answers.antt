use Rattle.reset_work.proofs.Parting.{resets_begin, resets_end}
use Rattle.reset_work.proofs.laws.resets_part_epochs.Goals as goal

pub returns-clause-begins : goal.returns-clause-begins
returns-clause-begins c = resets_begin

pub returns-clause-ends : goal.returns-clause-ends
returns-clause-ends c = resets_end
