use Rattle.part_making.proofs.Ending.{entered, cut_tells, settled_tells, settled_made}
use Rattle.part_making.proofs.laws.parts_end_by_their_last_line.Goals as goal

pub returns-clause-entered : goal.returns-clause-entered
returns-clause-entered c = entered

pub returns-clause-cut : goal.returns-clause-cut
returns-clause-cut c = cut_tells

pub returns-clause-settled : goal.returns-clause-settled
returns-clause-settled c = settled_tells

pub returns-clause-made : goal.returns-clause-made
returns-clause-made c = settled_made
