use Rattle.epoch_records.proofs.WorkedParts.{three_parts_are_run, no_early_answer}
use Rattle.epoch_records.proofs.rows.worked_parts_are_run.Goals as goal

pub returns-clause-done : goal.returns-clause-done
returns-clause-done c = three_parts_are_run

pub returns-clause-early : goal.returns-clause-early
returns-clause-early c = no_early_answer
