use Rattle.epoch_runs.proofs.Runs.{epochs_run}
use Rattle.epoch_runs.proofs.SoFar.{epochs_run_so_far, marked_run_so_far}
use Rattle.epoch_runs.proofs.laws.epochs_are_run_for_their_course.Goals as goal

pub returns-clause-run : goal.returns-clause-run
returns-clause-run c = epochs_run

pub returns-clause-so_far : goal.returns-clause-so_far
returns-clause-so_far c = epochs_run_so_far

pub returns-clause-marked : goal.returns-clause-marked
returns-clause-marked c = marked_run_so_far
