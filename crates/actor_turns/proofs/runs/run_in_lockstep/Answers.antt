use Rattle.actor_turns.proofs.runs.run_in_lockstep.Goals as goal

pub returns-clause-order : goal.returns-clause-order
returns-clause-order g c = c.in_ok-counted.ensures.order.runs
