use Rattle.std.proofs.Common.{arith, ap, subst, ◌∙◌}
use Rattle.board_turns.specs.declared.board.Board.{Board}
use Rattle.board_turns.specs.Turning.{HasTried}
use Rattle.board_turns.proofs.Ends.{may_try, sent, handed_back, free_of}
use Rattle.board_turns.proofs.PortSteps.{reports_none}
use Rattle.board_turns.proofs.board.Board.run.Goals as goal

pub returns-then-not-published-clause-goes_on : goal.returns-then-not-published-clause-goes_on
returns-then-not-published-clause-goes_on g c rest first h stands k may has =
    let m = c.publish_next-published.ensures.goes_on rest first h stands k has (free_of h may.quiet).obeyed (reports_none h may.quiet.unowed) in
    let n = c.fill.ensures.filled first m.0 m.2 in
    let unpublished = ap (λ (x : Board _). x.published) c.fill.ensures.same ∙ ap (λ (x : Board _). x.published) c.publish_next-published.ensures.same ∙ c.requires.unpublished in
    let none = ap (λ (x : Board _). x.flags) c.fill.ensures.same ∙ ap (λ (x : Board _). x.flags) c.publish_next-published.ensures.same ∙ c.requires.flags in
    let tried = subst (λ b. (HasTried first) b h m.0) c.if-not-published.true m.3 in
    (n.0, rw n.2.alone.port m.1, handed_back first _ _ h m.0 n.0 may tried n.2 n.1 unpublished none)

pub returns-clause-goes_on : goal.returns-clause-goes_on
returns-clause-goes_on g c rest first h stands k may has =
    let m = c.publish_next-published.ensures.goes_on rest first h stands k has (free_of h may.quiet).obeyed (reports_none h may.quiet.unowed) in
    let n = c.fill.ensures.filled first m.0 m.2 in
    let none = ap (λ (x : Board _). x.flags) c.fill.ensures.same ∙ ap (λ (x : Board _). x.flags) c.publish_next-published.ensures.same ∙ c.requires.flags in
    let tried = subst (λ b. (HasTried first) b h m.0) c.if-not-published.false m.3 in
    (n.0, rw n.2.alone.port m.1, sent first _ _ h m.0 n.0 (may_try first h may) (free_of h may.quiet) tried n.2 n.1 none)

pub publish_next-published-requires : goal.publish_next-published-requires
publish_next-published-requires g c = let r = c.requires.stands in (omega arith, (r.0, r.1, r.2, r.3, r.4, r.6, (free_of r.2 r.5.quiet).obeyed, reports_none r.2 r.5.quiet.unowed))

pub fill-requires : goal.fill-requires
fill-requires g c = (
  omega arith,
  let r = c.requires.stands in let first = r.1 in
      let m = c.publish_next-published.ensures.goes_on r.0 first r.2 r.3 r.4 r.6 (free_of r.2 r.5.quiet).obeyed (reports_none r.2 r.5.quiet.unowed) in
      (first, m.0, m.2),
)
