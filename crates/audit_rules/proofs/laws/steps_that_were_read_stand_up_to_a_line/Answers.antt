use Rattle.audit_rules.proofs.UpTo.{stand_to}
use Rattle.audit_rules.proofs.laws.steps_that_were_read_stand_up_to_a_line.Goals as goal

pub returns : goal.returns
returns c = stand_to
