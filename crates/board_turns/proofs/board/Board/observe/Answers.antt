use Rattle.std.proofs.Common.{arith, ◌∷◌, sym, ap, ◌∙◌, subst}
use Rattle.board_journal.specs.Ports.PortStep.{loaded}
use Rattle.board_journal.specs.Steps.{hand_of, given_of, plan_of, motion_of}
use Rattle.board_journal.specs.Steps.Step.{at_port}
use Rattle.board_turns.specs.declared.board.Board.{Board}
use Rattle.board_turns.proofs.Flying.{learned_all}
use Rattle.board_turns.proofs.Settling.{slowed_now, slowed_is, found_stopped, looked_learned}
use Rattle.board_turns.proofs.Telling.{looks, looks_stopped}
use Rattle.board_turns.proofs.board.Board.observe.Goals as goal

pub come_to_rest-requires : goal.come_to_rest-requires
come_to_rest-requires g c = (
  omega arith,
  let r = c.requires.stands in let first = r.1 in
      let s = c.args.self.now in
      let done = c.done-done.result in
      let may = c.done-done.ensures.known r.0 first r.2 r.3 r.4.conducted in
      let stopped = c.has_stopped.ensures.0 c.if-has_stopped.true in
      let slowed = slowed_is first s r.2 r.4 (stopped.0, stopped.1, stopped.2) in (
        first,
        at_port (loaded done) ∷ r.2,
        looked_learned first s c.learn.new.self done r.2 r.4 may (c.learn.ensures.flies first.place),
        found_stopped first s c.learn.new.self done r.2 r.4 slowed may stopped.3 (c.learn.ensures.flies first.place),
      ),
)

pub returns-then-has_stopped-clause-goes_on : goal.returns-then-has_stopped-clause-goes_on
returns-then-has_stopped-clause-goes_on g c rest first h stands k =
    let s = c.args.self.now in
    let done = c.done-done.result in
    let may = c.done-done.ensures.known rest first h stands k.conducted in
    let stopped = c.has_stopped.ensures.0 c.if-has_stopped.true in
    let slowed = slowed_is first s h k (stopped.0, stopped.1, stopped.2) in
    let keeps = looked_learned first s c.learn.new.self done h k may (c.learn.ensures.flies first.place) in
    let n = c.come_to_rest.ensures.comes first (at_port (loaded done) ∷ h) keeps (found_stopped first s c.learn.new.self done h k slowed may stopped.3 (c.learn.ensures.flies first.place)) in
    let same = ap (λ (b : Board _). b.flight) c.come_to_rest.ensures.same in
    let o = looks_stopped first s c.learn.new.self c.come_to_rest.new.self done h n.0 k slowed same (learned_all first s.flight c.learn.new.self done h k.conducted k.flight may (c.learn.ensures.flies first.place)) n.2 n.1 in
    (n.0, subst (λ l. g.P.EpochPort.stands c.done-done.new.self rest first l) (sym o.0) (c.done-done.ensures.done rest first h stands k.conducted), n.1, o.1, o.2)

pub returns-clause-goes_on : goal.returns-clause-goes_on
returns-clause-goes_on g c rest first h stands k =
    let s = c.args.self.now in
    let done = c.done-done.result in
    let may = c.done-done.ensures.known rest first h stands k.conducted in
    let n = looks first s c.observe.new.self c.learn.new.self done h k may (learned_all first s.flight c.learn.new.self done h k.conducted k.flight may (c.learn.ensures.flies first.place))
    (λ x. let slowed = slowed_now first s h k (record { slows = x.slowed.slows; speed = x.slowed.speed; empty = x.slowed.empty }) in
    absurd (let e = sym c.if-has_stopped.false ∙ c.has_stopped.ensures.1 (slowed.0, slowed.1, slowed.2, x.done ∙ sym k.machine.given_is) in cc))
    (c.observe.ensures (plan_of h) (motion_of first h) (hand_of h) (given_of h) k.machine) in
    (n.0, subst (λ l. g.P.EpochPort.stands c.done-done.new.self rest first l) (sym n.1) (c.done-done.ensures.done rest first h stands k.conducted), n.2, n.3, n.4)
