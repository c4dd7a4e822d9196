use Rattle.planner_runs.proofs.Driven.{driven}
use Rattle.planner_runs.proofs.laws.planner_runs_are_driven.Goals as goal

pub returns : goal.returns
returns c = driven
