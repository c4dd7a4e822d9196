use Rattle.stream_host.proofs.Alarming.{alarm_stays, sends_no_more}
use Rattle.stream_host.proofs.laws.hosts_stop_at_an_alarm.Goals as goal

pub returns-clause-stays : goal.returns-clause-stays
returns-clause-stays c = alarm_stays

pub returns-clause-no_more : goal.returns-clause-no_more
returns-clause-no_more c = sends_no_more
