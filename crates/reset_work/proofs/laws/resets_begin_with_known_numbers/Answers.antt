use Rattle.reset_work.proofs.Parting.{worked_known, worked_few, lines_few}
use Rattle.reset_work.proofs.laws.resets_begin_with_known_numbers.Goals as goal

pub returns-clause-worked : goal.returns-clause-worked
returns-clause-worked c = worked_known

pub returns-clause-marks : goal.returns-clause-marks
returns-clause-marks c = worked_few

pub returns-clause-lines : goal.returns-clause-lines
returns-clause-lines c = lines_few
