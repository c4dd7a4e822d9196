use Rattle.std.proofs.Common.{[], ◌∙◌}
use Rattle.motion_ring.specs.Rule.{none_sent}
use Rattle.link_ports.proofs.Boarding.{may_stop, stop_told}
use Rattle.link_ports.proofs.board.BoardLinkBoardPort.stop.Goals as goal

pub stop-requires : goal.stop-requires
stop-requires g c = let q = c.requires in may_stop _ _ _ [] _ none_sent _ 0 q.1 q.2.3 q.3

pub returns : goal.returns
returns g c rest l s may =
    let e = c.stop.ensures in (
      s.0,
      s.1,
      e.ring ∙ s.2,
      stop_told _ _ _ [] _ _ _ _ l s.3 e.sent e.known,
      record { byte_looks = s.4.byte_looks; room_looks = s.4.room_looks; done_looks = e.loads.0 ∙ s.4.done_looks; halt_looks = e.loads.1 ∙ s.4.halt_looks; saw = tt },
    )
