use Rattle.motion_ring.specs.Rule.{none_sent}
use Rattle.link_ports.proofs.Boarding.{has_few_reports}
use Rattle.link_ports.proofs.board.BoardLinkBoardPort.take_exec.Goals as goal

pub returns-clause-few : goal.returns-clause-few
returns-clause-few g c asks rest l s = has_few_reports _ _ _ _ _ none_sent _ 0 l s.3 c.take_exec.result c.take_exec.ensures.takes c.take_exec.ensures.few asks
