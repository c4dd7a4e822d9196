use Rattle.planner_runs.proofs.Runs.{grows_by_add, grows_by_override, grows_by_rest, grows_by_clear, grows_by_reset, grows_by_segment, grows_by_mark}
use Rattle.planner_runs.proofs.laws.planner_runs_grow.Goals as goal

pub returns-clause-add : goal.returns-clause-add
returns-clause-add c = grows_by_add

pub returns-clause-replan : goal.returns-clause-replan
returns-clause-replan c = grows_by_override

pub returns-clause-rest : goal.returns-clause-rest
returns-clause-rest c = grows_by_rest

pub returns-clause-clear : goal.returns-clause-clear
returns-clause-clear c = grows_by_clear

pub returns-clause-reset : goal.returns-clause-reset
returns-clause-reset c = grows_by_reset

pub returns-clause-take : goal.returns-clause-take
returns-clause-take c = grows_by_segment

pub returns-clause-mark : goal.returns-clause-mark
returns-clause-mark c = grows_by_mark
