use Rattle.planner_runs.proofs.Legal.{heads_are_legal, closed_heads_are_legal, cut_heads_are_legal}
use Rattle.planner_runs.proofs.laws.planner_runs_are_legal.Goals as goal

pub returns-clause-heads : goal.returns-clause-heads
returns-clause-heads c = heads_are_legal

pub returns-clause-closed : goal.returns-clause-closed
returns-clause-closed c = closed_heads_are_legal

pub returns-clause-cut : goal.returns-clause-cut
returns-clause-cut c = cut_heads_are_legal
