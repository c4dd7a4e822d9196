use Rattle.planner_runs.proofs.Ticks.{ticks_from_start, all_ticks, ticks_in_order}
use Rattle.planner_runs.proofs.laws.ticks_are_those_asked_for.Goals as goal

pub returns-clause-ticks : goal.returns-clause-ticks
returns-clause-ticks c = ticks_from_start

pub returns-clause-all : goal.returns-clause-all
returns-clause-all c = all_ticks

pub returns-clause-on : goal.returns-clause-on
returns-clause-on c = ticks_in_order
