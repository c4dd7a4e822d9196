use Rattle.std.proofs.Common.{[], length, false, sym, ap, ◌∙◌}
use Rattle.serial_ring.specs.Logs.{taken_in}
use Rattle.motion_ring.specs.Rule.{none_sent}
use Rattle.link_ports.proofs.Boarding.{has_taken_few, is_marked_past, byte_taken, nothing_found, end_found, looks_and_takes, looks_in_vain, looks_and_ends}
use Rattle.link_ports.proofs.board.BoardLinkBoardPort.byte.Goals as goal

pub returns-clause-byte : goal.returns-clause-byte
returns-clause-byte g c b is rest l s =
    let told = c.byte.ensures.byte b is in (
      c.byte.ensures.link ∙ s.0,
      s.1,
      s.2,
      byte_taken _ _ _ _ _ _ _ l s.3 b told.0 c.byte.ensures.over,
      record {
        byte_looks = looks_and_takes _ [] _ false _ _ _ l s.3 g.row.RX _ _ _ _ s.4.byte_looks b c.byte.ensures.load c.byte.ensures.kept told.1;
        room_looks = c.byte.ensures.loads ∙ s.4.room_looks;
        done_looks = s.4.done_looks;
        halt_looks = s.4.halt_looks;
        saw = tt;
      },
    )

pub returns-clause-empty : goal.returns-clause-empty
returns-clause-empty g c is rest l s =
    let told = c.byte.ensures.empty is in (
      c.byte.ensures.link ∙ s.0,
      s.1,
      s.2,
      nothing_found _ _ _ _ _ _ _ l s.3 told.0 c.byte.ensures.over,
      record {
        byte_looks = looks_in_vain _ [] _ false _ _ _ l s.3 g.row.RX _ _ _ _ s.4.byte_looks told.1 (c.byte.ensures.load told.1) (sym (ap (λ z. length (taken_in z)) told.0) ∙ told.2);
        room_looks = c.byte.ensures.loads ∙ s.4.room_looks;
        done_looks = s.4.done_looks;
        halt_looks = s.4.halt_looks;
        saw = told.3;
      },
    )

pub returns-clause-closed : goal.returns-clause-closed
returns-clause-closed g c is rest l s =
    let told = c.byte.ensures.closed is in (
      c.byte.ensures.link ∙ s.0,
      s.1,
      s.2,
      end_found _ _ _ _ _ _ _ l s.3 told.0 told.3,
      record {
        byte_looks = looks_and_ends _ [] _ false _ _ _ l s.3 g.row.RX _ _ _ _ s.4.byte_looks told.1 (c.byte.ensures.load told.1) (sym (ap (λ z. length (taken_in z)) told.0) ∙ told.2);
        room_looks = c.byte.ensures.loads ∙ s.4.room_looks;
        done_looks = s.4.done_looks;
        halt_looks = s.4.halt_looks;
        saw = told.3;
      },
    )

pub returns-clause-marked : goal.returns-clause-marked
returns-clause-marked g c rest l s past = c.byte.ensures.marked (is_marked_past _ _ _ [] _ none_sent _ 0 l s.3 past)

pub returns-clause-few : goal.returns-clause-few
returns-clause-few g c b is rest l s = has_taken_few _ _ _ [] _ none_sent _ 0 l s.3 (c.byte.ensures.few b is)
