use Rattle.audit_rules.proofs.GoesOn.{goes_on_to, goes_on_last}
use Rattle.audit_rules.proofs.laws.who_tells_more_goes_on.Goals as goal

pub returns-clause-course : goal.returns-clause-course
returns-clause-course c = goes_on_to

pub returns-clause-last : goal.returns-clause-last
returns-clause-last c = goes_on_last
