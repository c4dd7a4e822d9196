use Rattle.audit_rules.proofs.ComeUpTo.{comes_here, comes_on, comes_to_fault, comes_to_no_alarm, read_no_further}
use Rattle.audit_rules.proofs.laws.a_console_stands_by_the_lines_that_stand.Goals as goal

pub returns-clause-read : goal.returns-clause-read
returns-clause-read c = read_no_further

pub returns-clause-here : goal.returns-clause-here
returns-clause-here c = comes_here

pub returns-clause-on : goal.returns-clause-on
returns-clause-on c = comes_on

pub returns-clause-bad : goal.returns-clause-bad
returns-clause-bad c = comes_to_fault

pub returns-clause-alarm : goal.returns-clause-alarm
returns-clause-alarm c = comes_to_no_alarm
