use Rattle.std.proofs.Common.{arith, ◌∷◌, sym, ◌∙◌, subst}
use Rattle.board_journal.specs.Ports.PortStep.{loaded}
use Rattle.board_journal.specs.Steps.Step.{at_port}
use Rattle.board_turns.proofs.Settling.{slowed_now, slowed_is, found_stopped, looked_learned, came_of, port_came, settled_later, settled_none}
use Rattle.board_turns.proofs.board.Board.settle.Goals as goal

pub returns-then-not-has_slowed_down-clause-goes_on : goal.returns-then-not-has_slowed_down-clause-goes_on
returns-then-not-has_slowed_down-clause-goes_on g c rest first h stands k =
    let s = c.args.self.now in (
      h,
      stands,
      k,
      settled_none first h (λ slowed. absurd (let e = sym c.if-not-has_slowed_down.true ∙ c.has_slowed_down.ensures.1 (slowed_now first s h k slowed) in cc)),
    )

pub returns-then-done-self-clause-goes_on : goal.returns-then-done-self-clause-goes_on
returns-then-done-self-clause-goes_on g c rest first h stands k =
    let s = c.args.self.now in
    let done = c.done-done.result in (
      at_port (loaded done) ∷ h,
      c.done-done.ensures.done rest first h stands k.conducted,
      looked_learned first s c.learn.new.self done h k (c.done-done.ensures.known rest first h stands k.conducted) (c.learn.ensures.flies first.place),
      settled_later first s h done k c.if-done-self.true,
    )

pub come_to_rest-requires : goal.come_to_rest-requires
come_to_rest-requires g c = (
  omega arith,
  let r = c.requires.stands in let first = r.1 in
      let s = c.args.self.now in
      let done = c.done-done.result in
      let may = c.done-done.ensures.known r.0 first r.2 r.3 r.4.conducted in
      let slowed = slowed_is first s r.2 r.4 (c.has_slowed_down.ensures.0 c.if-not-has_slowed_down.false) in (
        first,
        at_port (loaded done) ∷ r.2,
        looked_learned first s c.learn.new.self done r.2 r.4 may (c.learn.ensures.flies first.place),
        found_stopped first s c.learn.new.self done r.2 r.4 slowed may c.if-done-self.false (c.learn.ensures.flies first.place),
      ),
)

pub returns-clause-goes_on : goal.returns-clause-goes_on
returns-clause-goes_on g c rest first h stands k =
    let s = c.args.self.now in
    let done = c.done-done.result in
    let may = c.done-done.ensures.known rest first h stands k.conducted in
    let slowed = slowed_is first s h k (c.has_slowed_down.ensures.0 c.if-not-has_slowed_down.false) in
    let n = c.come_to_rest.ensures.comes first (at_port (loaded done) ∷ h) (looked_learned first s c.learn.new.self done h k may (c.learn.ensures.flies first.place))
    (found_stopped first s c.learn.new.self done h k slowed may c.if-done-self.false (c.learn.ensures.flies first.place)) in (
      n.0,
      subst (λ l. g.P.EpochPort.stands c.done-done.new.self rest first l) (sym (port_came first (at_port (loaded done) ∷ h) n.0 n.2)) (c.done-done.ensures.done rest first h stands k.conducted),
      n.1,
      (came_of first h n.0 done k.conducted slowed n.2).settled,
    )
