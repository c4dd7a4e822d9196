use Rattle.audit_rules.proofs.Come.{over_tells_nothing, over_tells_no_alarm, stand, stands_here, stands_on}
use Rattle.audit_rules.proofs.laws.a_course_stands_where_it_has_come_to.Goals as goal

pub returns-clause-records : goal.returns-clause-records
returns-clause-records c sent console records made since begun = stand sent console records since begun made

pub returns-clause-here : goal.returns-clause-here
returns-clause-here c sent console records made since begun = stands_here sent console records since begun made

pub returns-clause-on : goal.returns-clause-on
returns-clause-on c sent console records made since begun = stands_on sent console records since begun made

pub returns-clause-nothing : goal.returns-clause-nothing
returns-clause-nothing c = over_tells_nothing

pub returns-clause-alarm : goal.returns-clause-alarm
returns-clause-alarm c = over_tells_no_alarm
