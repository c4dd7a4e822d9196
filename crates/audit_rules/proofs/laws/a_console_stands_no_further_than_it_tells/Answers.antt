use Rattle.audit_rules.proofs.NoAlarm.{no_alarm}
use Rattle.audit_rules.proofs.NoFurther.{bad_reply}
use Rattle.audit_rules.proofs.laws.a_console_stands_no_further_than_it_tells.Goals as goal

pub returns-clause-bad : goal.returns-clause-bad
returns-clause-bad c = bad_reply

pub returns-clause-alarm : goal.returns-clause-alarm
returns-clause-alarm c = no_alarm
