use Rattle.planner_runs.proofs.Runs.{fresh_starts, reached_from, rests_behind, clears_behind, few_blocks}
use Rattle.planner_runs.proofs.laws.planner_runs_begin_at_rest.Goals as goal

pub returns-clause-fresh : goal.returns-clause-fresh
returns-clause-fresh c = fresh_starts

pub returns-clause-reached : goal.returns-clause-reached
returns-clause-reached c = reached_from

pub returns-clause-rests : goal.returns-clause-rests
returns-clause-rests c = rests_behind

pub returns-clause-cleared : goal.returns-clause-cleared
returns-clause-cleared c = clears_behind

pub returns-clause-few : goal.returns-clause-few
returns-clause-few c = few_blocks
