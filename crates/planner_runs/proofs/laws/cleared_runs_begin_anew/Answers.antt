use Rattle.planner_runs.proofs.Driven.{parted}
use Rattle.planner_runs.proofs.laws.cleared_runs_begin_anew.Goals as goal

pub returns : goal.returns
returns c = parted
