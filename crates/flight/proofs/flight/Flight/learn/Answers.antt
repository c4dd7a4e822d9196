use Rattle.std.proofs.Common.{ℕ, max, min, ap, ◌∙◌, arith, subst, List}
use Rattle.step_line.specs.declared.Piece.{Piece}
use Rattle.step_line.specs.Finishing.{ticks_together}
use Rattle.flight.specs.Flights.{Flies}
use Rattle.flight.proofs.Flying.{known_few, known_at_last, fewer_found, count_is}
use Rattle.flight.proofs.flight.Flight.learn.Goals as goal
use Rattle.units.specs.declared.Steps3.{Steps3}

known_is : (c : goal.After-learn_within) → (start : Steps3) (published : List Piece) (known : ℕ) → Flies start c.args.self.now published known → Flies start c.learn_within.new.self published (max known (min c.args.done (ticks_together published)))
known_is c start published known is =
    let there = c.loop-self.invariant.2 start published known is in
    let few = known_few start c.loop-self.self published c.loop-self.self.known there in
    subst (Flies start c.learn_within.new.self published)
    (known_at_last c.args.self.now.known c.loop-self.self.known c.args.done (ticks_together published) c.loop-self.invariant.0 c.loop-self.invariant.1 few
    ∙ ap (λ n. max n (min c.args.done (ticks_together published))) is.done)
    (c.learn_within.ensures.flies start published there)

pub returns-clause-flies : goal.returns-clause-flies
returns-clause-flies c = known_is c

pub returns-clause-room : goal.returns-clause-room
returns-clause-room c = λ start published known is room.
    let there = known_is c start published known is in
    let count = count_is start c.learn_within.new.self published (max known (min c.args.done (ticks_together published))) there in
    let fewer = fewer_found published known c.args.done (known_few start c.args.self.now published known is) in
    omega arith
