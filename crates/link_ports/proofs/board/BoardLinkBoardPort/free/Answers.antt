use Rattle.std.proofs.Common.{[], false, ◌∙◌}
use Rattle.link_ports.proofs.Boarding.{room_found, looks_at_room}
use Rattle.link_ports.proofs.board.BoardLinkBoardPort.free.Goals as goal

pub returns-clause-free : goal.returns-clause-free
returns-clause-free g c rest l s = (
  c.free.ensures.link ∙ s.0,
  s.1,
  s.2,
  room_found _ _ _ _ _ _ _ l s.3 c.free.result c.free.ensures.log c.free.ensures.over,
  record {
    byte_looks = looks_at_room _ [] _ false _ _ _ l s.3 g.row.RX _ _ _ _ s.4.byte_looks c.free.result c.free.ensures.load c.free.ensures.free;
    room_looks = c.free.ensures.loads ∙ s.4.room_looks;
    done_looks = s.4.done_looks;
    halt_looks = s.4.halt_looks;
    saw = tt;
  },
)
