use Rattle.epoch_links.proofs.Awaiting.{awaits, all_got, got_or_all}
use Rattle.epoch_links.proofs.Sending.{sends_front, sends_all}
use Rattle.epoch_links.proofs.laws.hosts_await_a_banner_of_each_mark.Goals as goal

pub returns-clause-awaits : goal.returns-clause-awaits
returns-clause-awaits c = awaits

pub returns-clause-front : goal.returns-clause-front
returns-clause-front c = sends_front

pub returns-clause-got : goal.returns-clause-got
returns-clause-got c = all_got

pub returns-clause-whole : goal.returns-clause-whole
returns-clause-whole c = sends_all

pub returns-clause-waits : goal.returns-clause-waits
returns-clause-waits c = got_or_all
