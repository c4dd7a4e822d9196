use Rattle.std.proofs.Common.{ℕ, [], length, sym, ap, ◌∙◌, subst, rules}
use Rattle.std.proofs.lemmas.Result.{on_err_weaker}
use Rattle.serial_ring.specs.Logs.{answered_in}
use Rattle.link_ports.specs.Boards.{LooksForBytes}
use Rattle.motion_ring.specs.Rule.{none_sent}
use Rattle.link_ports.proofs.Boarding.{may_answer, reply_refused, lacks_reply_room}
use Rattle.link_ports.proofs.board.BoardLinkBoardPort.answer.Goals as goal

pub answer-requires : goal.answer-requires
answer-requires g c = let q = c.requires in (search rules, may_answer _ _ _ [] _ none_sent _ 0 q.1 q.2.3 c.args.r q.3)

pub returns-clause-full : goal.returns-clause-full
returns-clause-full g c = let e = c.answer.ensures in on_err_weaker c.answer.result
    (λ told rest l s. (
      (
        e.link ∙ s.0,
        s.1,
        s.2,
        reply_refused _ _ _ _ _ _ _ l s.3 told.0 e.over,
        record {
          byte_looks = subst (λ (z : ℕ × ℕ). LooksForBytes g.row.RX l z.0 z.1) (λ i. (sym e.polls.0 i, sym e.polls.1 i)) s.4.byte_looks;
          room_looks = search rules;
          done_looks = s.4.done_looks;
          halt_looks = s.4.halt_looks;
          saw = ap (λ z. length (answered_in z)) told.0 ∙ told.1;
        },
      ),
      lacks_reply_room _ _ _ [] _ none_sent _ 0 l s.3 _ told.1,
    ))
    c.answer.ensures.full
