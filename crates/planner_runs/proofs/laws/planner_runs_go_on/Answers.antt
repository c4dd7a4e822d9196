use Rattle.planner_runs.proofs.Runs.{goes_on, in_parts, asked_on, moves_on, ticks_on, clears_on, resets_on, disturbed_on, disturbed_more, disturbed_keeps, keeps_on}
use Rattle.planner_runs.proofs.laws.planner_runs_go_on.Goals as goal

pub returns-clause-goes_on : goal.returns-clause-goes_on
returns-clause-goes_on c = goes_on

pub returns-clause-parts : goal.returns-clause-parts
returns-clause-parts c = in_parts

pub returns-clause-asked : goal.returns-clause-asked
returns-clause-asked c = asked_on

pub returns-clause-moves : goal.returns-clause-moves
returns-clause-moves c = moves_on

pub returns-clause-ticks : goal.returns-clause-ticks
returns-clause-ticks c = ticks_on

pub returns-clause-clears : goal.returns-clause-clears
returns-clause-clears c = clears_on

pub returns-clause-resets : goal.returns-clause-resets
returns-clause-resets c = resets_on

pub returns-clause-disturbed : goal.returns-clause-disturbed
returns-clause-disturbed c = disturbed_on

pub returns-clause-more : goal.returns-clause-more
returns-clause-more c = disturbed_more

pub returns-clause-keeps : goal.returns-clause-keeps
returns-clause-keeps c = disturbed_keeps

pub returns-clause-on : goal.returns-clause-on
returns-clause-on c = keeps_on
