use Rattle.run_rules.proofs.Settling.{settles_by_last, none_settles, still_behind}
use Rattle.run_rules.proofs.laws.lines_settle.Goals as goal

pub returns-clause-last : goal.returns-clause-last
returns-clause-last c = settles_by_last

pub returns-clause-none : goal.returns-clause-none
returns-clause-none c = none_settles

pub returns-clause-still : goal.returns-clause-still
returns-clause-still c = still_behind
