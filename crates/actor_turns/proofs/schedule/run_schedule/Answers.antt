use Rattle.std.proofs.Common.{take}
use Rattle.actor_turns.proofs.Schedules.{runs_nothing, runs_more, next_taken}
use Rattle.actor_turns.proofs.schedule.run_schedule.Goals as goal

pub loop-actor-init : goal.loop-actor-init
loop-actor-init g c = runs_nothing _ _

pub loop-actor-preserved : goal.loop-actor-preserved
loop-actor-preserved g c = next_taken _ _ _ _ _ _ _ c.loop-actor-test.true (runs_more (take c.loop-actor.actor-index c.args.schedule.now) _ _ _ _ _ _ _ _ c.loop-actor.invariant c.turn.ensures.goes_on)
