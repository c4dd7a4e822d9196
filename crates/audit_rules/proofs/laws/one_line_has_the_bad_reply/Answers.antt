use Rattle.audit_rules.proofs.OneLine.{one_bad_line}
use Rattle.audit_rules.proofs.laws.one_line_has_the_bad_reply.Goals as goal

pub returns : goal.returns
returns c = one_bad_line
