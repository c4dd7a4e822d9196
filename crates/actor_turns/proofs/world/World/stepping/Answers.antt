use Rattle.actor_turns.specs.Worlds.{no_history}
use Rattle.actor_turns.proofs.Beginning.{holds_nothing, begins}
use Rattle.actor_turns.proofs.world.World.stepping.Goals as goal

pub invariant_of-result : goal.invariant_of-result
invariant_of-result g c = (no_history c.args.attended c.args.stepping, holds_nothing c.args.attended _ c.in_ok-new.ensures c.in_ok-new-2.ensures c.new.ensures c.new-2.ensures c.new-3.ensures.fresh c.args.stepping c.new-3.ensures.stepping)

pub returns-clause-fresh : goal.returns-clause-fresh
returns-clause-fresh g c now = begins c.args.form c.args.attended c.args.stepping _ now (holds_nothing c.args.attended _ c.in_ok-new.ensures c.in_ok-new-2.ensures c.new.ensures c.new-2.ensures c.new-3.ensures.fresh c.args.stepping c.new-3.ensures.stepping) (c.new-4.ensures.fits now.steps)
