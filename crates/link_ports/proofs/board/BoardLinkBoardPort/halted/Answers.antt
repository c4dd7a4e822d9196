use Rattle.std.proofs.Common.{[]}
use Rattle.motion_ring.specs.Rule.{none_sent}
use Rattle.link_ports.proofs.Boarding.{a_stop_waits}
use Rattle.link_ports.proofs.board.BoardLinkBoardPort.halted.Goals as goal

pub halted-requires : goal.halted-requires
halted-requires g c = let q = c.requires in a_stop_waits _ _ _ [] _ none_sent _ 0 q.1 q.2.3 q.3
