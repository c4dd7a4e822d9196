use Rattle.planner_runs.proofs.Runs.{still_normal}
use Rattle.planner_runs.proofs.laws.overrides_are_asked_for.Goals as goal

pub returns : goal.returns
returns c = still_normal
