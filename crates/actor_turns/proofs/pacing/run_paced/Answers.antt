use Rattle.actor_turns.proofs.Paces.{paced_nothing}
use Rattle.actor_turns.proofs.Ending.{none_ended}
use Rattle.actor_turns.proofs.pacing.run_paced.Goals as goal

pub loop-init : goal.loop-init
loop-init g c = (rw c.new-pace.ensures (paced_nothing _ _), rw c.none-ended.ensures (none_ended _))

pub loop-preserved : goal.loop-preserved
loop-preserved g c = (c.take_paced_turns.ensures.goes_on _ _ c.loop.invariant.0, c.take_paced_turns.ensures.ended c.loop.invariant.1)

pub returns-then-take_paced_turns-clause-paced : goal.returns-then-take_paced_turns-clause-paced
returns-then-take_paced_turns-clause-paced g c = record { pace = _; paced = c.take_paced_turns.ensures.goes_on _ _ c.loop.invariant.0 }
