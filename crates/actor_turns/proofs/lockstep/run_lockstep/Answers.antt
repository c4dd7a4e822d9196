use Rattle.actor_turns.specs.Lockstep.{order_from}
use Rattle.actor_turns.proofs.Schedules.{order_nothing}
use Rattle.actor_turns.proofs.Ending.{none_ended}
use Rattle.actor_turns.proofs.lockstep.run_lockstep.Goals as goal

pub loop-init : goal.loop-init
loop-init g c = (order_nothing _ _ _, rw c.none-ended.ensures (none_ended _))

pub loop-preserved : goal.loop-preserved
loop-preserved g c = (c.take_next_turns.ensures.goes_on _ _ _ c.loop.invariant.0, c.take_next_turns.ensures.ended c.loop.invariant.1)

pub returns-then-take_next_turns-clause-goes_on : goal.returns-then-take_next_turns-clause-goes_on
returns-then-take_next_turns-clause-goes_on g c =
    let so = (c.take_next_turns.ensures.goes_on _ _ _ c.loop.invariant.0).order in record { schedule = order_from c.args.seed so.count; runs = so.runs }

pub returns-then-take_next_turns-clause-order : goal.returns-then-take_next_turns-clause-order
returns-then-take_next_turns-clause-order g c = (c.take_next_turns.ensures.goes_on _ _ _ c.loop.invariant.0).order
