use Rattle.epoch_records.proofs.Worked.{stopped_behind_two, stopped_before_all}
use Rattle.epoch_records.proofs.rows.worked_epochs_are_put.Goals as goal

pub returns-clause-two : goal.returns-clause-two
returns-clause-two c = stopped_behind_two

pub returns-clause-none : goal.returns-clause-none
returns-clause-none c = stopped_before_all
