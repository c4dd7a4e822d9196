use Rattle.actor_turns.proofs.Schedules.{order_more}
use Rattle.actor_turns.proofs.Ending.{learned}
use Rattle.actor_turns.proofs.lockstep.take_turns.Goals as goal

pub loop-init : goal.loop-init
loop-init g c = (λ seed before w was. was, λ was. was)

pub loop-preserved : goal.loop-preserved
loop-preserved g c = (
  λ seed before w was.
      order_more _ _ _ _ _ _ _ _ _ _ _ (c.loop.invariant.0 seed before w was) c.next-actor.ensures.state c.next-actor.ensures.chosen c.turn-turn.ensures.goes_on,
  λ was.
      learned _ _ _ _ _ _ c.learn.ensures.done c.learn.ensures.same c.turn-turn.ensures.done c.turn-turn.ensures.alone (λ d. (c.turn-turn.ensures.still d).0) (c.loop.invariant.1 was),
)

pub returns-then-learn-clause-goes_on : goal.returns-then-learn-clause-goes_on
returns-then-learn-clause-goes_on g c = λ seed before w was.
    order_more _ _ _ _ _ _ _ _ _ _ _ (c.loop.invariant.0 seed before w was) c.next-actor.ensures.state c.next-actor.ensures.chosen c.turn-turn.ensures.goes_on

pub returns-then-learn-clause-ended : goal.returns-then-learn-clause-ended
returns-then-learn-clause-ended g c = λ was.
    learned _ _ _ _ _ _ c.learn.ensures.done c.learn.ensures.same c.turn-turn.ensures.done c.turn-turn.ensures.alone (λ d. (c.turn-turn.ensures.still d).0) (c.loop.invariant.1 was)
