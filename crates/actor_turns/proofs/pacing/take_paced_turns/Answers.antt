use Rattle.actor_turns.proofs.Paces.{paced_more}
use Rattle.actor_turns.proofs.Ending.{learned}
use Rattle.actor_turns.proofs.pacing.take_paced_turns.Goals as goal

pub loop-init : goal.loop-init
loop-init g c = (λ before w was. was, λ was. was)

pub loop-preserved : goal.loop-preserved
loop-preserved g c = (
  λ before w was.
      paced_more _ _ _ _ _ _ _ _ _ _ (c.loop.invariant.0 before w was) c.turn-turn.ensures.goes_on c.awaits_piece-between.ensures c.follow.ensures,
  λ was.
      learned _ _ _ _ _ _ c.learn.ensures.done c.learn.ensures.same c.turn-turn.ensures.done c.turn-turn.ensures.alone (λ d. (c.turn-turn.ensures.still d).0) (c.loop.invariant.1 was),
)

pub returns-then-learn-clause-goes_on : goal.returns-then-learn-clause-goes_on
returns-then-learn-clause-goes_on g c = λ before w was.
    paced_more _ _ _ _ _ _ _ _ _ _ (c.loop.invariant.0 before w was) c.turn-turn.ensures.goes_on c.awaits_piece-between.ensures c.follow.ensures

pub returns-then-learn-clause-ended : goal.returns-then-learn-clause-ended
returns-then-learn-clause-ended g c = λ was.
    learned _ _ _ _ _ _ c.learn.ensures.done c.learn.ensures.same c.turn-turn.ensures.done c.turn-turn.ensures.alone (λ d. (c.turn-turn.ensures.still d).0) (c.loop.invariant.1 was)
