use Rattle.run_rules.proofs.Determined.{one_opening, outcomes_agree, one_outcome, one_run}
use Rattle.run_rules.proofs.laws.runs_are_determined.Goals as goal

pub returns-clause-opening : goal.returns-clause-opening
returns-clause-opening c = one_opening

pub returns-clause-line : goal.returns-clause-line
returns-clause-line c = outcomes_agree

pub returns-clause-still : goal.returns-clause-still
returns-clause-still c = one_outcome

pub returns-clause-run : goal.returns-clause-run
returns-clause-run c = one_run
