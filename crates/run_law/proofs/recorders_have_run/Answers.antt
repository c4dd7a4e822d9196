use Rattle.run_law.proofs.Having.{recorder_ran, recorder_runs}
use Rattle.run_law.proofs.recorders_have_run.Goals as goal

pub returns-clause-whole : goal.returns-clause-whole
returns-clause-whole c = recorder_ran

pub returns-clause-so_far : goal.returns-clause-so_far
returns-clause-so_far c = recorder_runs
