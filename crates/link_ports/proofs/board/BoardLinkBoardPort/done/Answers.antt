use Rattle.std.proofs.Common.{[]}
use Rattle.motion_ring.specs.Rule.{none_sent}
use Rattle.link_ports.proofs.Boarding.{may_be_done}
use Rattle.link_ports.proofs.board.BoardLinkBoardPort.done.Goals as goal

pub returns-clause-known : goal.returns-clause-known
returns-clause-known g c rest l s = may_be_done _ _ _ [] _ none_sent _ 0 l s.3 c.done.result c.done.ensures.known.0 c.done.ensures.known.1 c.done.ensures.few
