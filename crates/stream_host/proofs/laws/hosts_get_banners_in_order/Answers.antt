use Rattle.stream_host.proofs.Greeting.{greeted_in_order, answered_in_order}
use Rattle.stream_host.proofs.laws.hosts_get_banners_in_order.Goals as goal

pub returns-clause-got : goal.returns-clause-got
returns-clause-got c = greeted_in_order

pub returns-clause-answered : goal.returns-clause-answered
returns-clause-answered c = answered_in_order
