use Rattle.audit_rules.proofs.LineShort.{line_alarms, line_calm, line_fails}
use Rattle.audit_rules.proofs.laws.a_line_that_is_not_told_is_at_fault.Goals as goal

pub returns-clause-fails : goal.returns-clause-fails
returns-clause-fails c = line_fails

pub returns-clause-calm : goal.returns-clause-calm
returns-clause-calm c = line_calm

pub returns-clause-alarm : goal.returns-clause-alarm
returns-clause-alarm c = line_alarms
