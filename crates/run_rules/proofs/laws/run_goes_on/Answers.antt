use Rattle.run_rules.proofs.Going.{goes_on, cut_goes_on, as_many, numbered, cuts_from_start, becomes_on, follows_on}
use Rattle.run_rules.proofs.laws.run_goes_on.Goals as goal

pub returns-clause-goes_on : goal.returns-clause-goes_on
returns-clause-goes_on c = goes_on

pub returns-clause-cut : goal.returns-clause-cut
returns-clause-cut c = cut_goes_on

pub returns-clause-as_many : goal.returns-clause-as_many
returns-clause-as_many c = as_many

pub returns-clause-numbered : goal.returns-clause-numbered
returns-clause-numbered c = numbered

pub returns-clause-cuts : goal.returns-clause-cuts
returns-clause-cuts c = cuts_from_start

pub returns-clause-line : goal.returns-clause-line
returns-clause-line c = becomes_on

pub returns-clause-lines : goal.returns-clause-lines
returns-clause-lines c = follows_on
