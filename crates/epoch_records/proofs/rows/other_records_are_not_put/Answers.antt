use Rattle.epoch_records.proofs.Worked.{one_too_many, no_mark}
use Rattle.epoch_records.proofs.rows.other_records_are_not_put.Goals as goal

pub returns-clause-tick : goal.returns-clause-tick
returns-clause-tick c = one_too_many

pub returns-clause-mark : goal.returns-clause-mark
returns-clause-mark c = no_mark
