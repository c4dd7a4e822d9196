use Rattle.std.proofs.Common.{ℕ, ◌+◌, [], refl, ap, ◌∙◌}
use Rattle.std.proofs.lemmas.Result.{on_err_weaker}
use Rattle.motion_ring.specs.Rule.{none_sent}
use Rattle.motion_ring.specs.Ends.{known_by}
use Rattle.link_ports.proofs.Boarding.{may_publish, piece_refused, lacks_piece_room}
use Rattle.link_ports.proofs.board.BoardLinkBoardPort.publish.Goals as goal

pub publish-requires : goal.publish-requires
publish-requires g c = let q = c.requires in may_publish _ _ _ [] _ none_sent _ 0 q.1 q.2.3 c.args.p q.3

pub returns-clause-full : goal.returns-clause-full
returns-clause-full g c = let e = c.publish.ensures in on_err_weaker c.publish.result
    (λ told rest l s. (
      known_by c.publish.new.self,
      (
        s.0,
        s.1,
        e.ring ∙ s.2,
        piece_refused _ _ _ [] _ _ _ _ l s.3 _ told.1 e.known.0,
        record {
          byte_looks = s.4.byte_looks;
          room_looks = s.4.room_looks;
          done_looks = e.load ∙ ap (λ (n : ℕ). n + 1) s.4.done_looks;
          halt_looks = e.halts ∙ s.4.halt_looks;
          saw = refl;
        },
      ),
      lacks_piece_room _ _ _ [] _ none_sent _ _ l s.3 e.known.0 told.0,
    ))
    c.publish.ensures.full
