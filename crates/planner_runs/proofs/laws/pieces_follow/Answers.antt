use Rattle.planner_runs.proofs.Following.{start_follows, next_follows}
use Rattle.planner_runs.proofs.laws.pieces_follow.Goals as goal

pub returns-clause-all : goal.returns-clause-all
returns-clause-all c = start_follows

pub returns-clause-next : goal.returns-clause-next
returns-clause-next c = next_follows
