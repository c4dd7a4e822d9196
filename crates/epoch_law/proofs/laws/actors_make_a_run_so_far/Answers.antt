use Rattle.epoch_law.proofs.MakingSoFar.{runs_so_far}
use Rattle.epoch_law.proofs.laws.actors_make_a_run_so_far.Goals as goal

pub returns : goal.returns
returns c = runs_so_far
