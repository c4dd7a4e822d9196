use Rattle.epoch_law.proofs.Fronts.{run_ended}
use Rattle.epoch_law.proofs.laws.actors_that_end_make_a_run.Goals as goal

pub returns : goal.returns
returns c = run_ended
