use Rattle.epoch_links.proofs.Tying.{ends_linked, ends_answered, ports_linked, ports_answered, lists_linked}
use Rattle.epoch_links.proofs.laws.ends_of_a_link_are_linked.Goals as goal

pub returns-clause-linked : goal.returns-clause-linked
returns-clause-linked c = ends_linked

pub returns-clause-answered : goal.returns-clause-answered
returns-clause-answered c = ends_answered

pub returns-clause-lists : goal.returns-clause-lists
returns-clause-lists c = lists_linked

pub returns-clause-ports : goal.returns-clause-ports
returns-clause-ports c = λ host r agree. (ports_linked host r agree, ports_answered host r agree)
