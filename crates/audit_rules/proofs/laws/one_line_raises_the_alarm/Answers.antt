use Rattle.audit_rules.proofs.OneAlarm.{one_alarm}
use Rattle.audit_rules.proofs.laws.one_line_raises_the_alarm.Goals as goal

pub returns : goal.returns
returns c = one_alarm
