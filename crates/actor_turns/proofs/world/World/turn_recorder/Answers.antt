use Rattle.std.proofs.Common.{None, sym}
use Rattle.actor_turns.proofs.Arms.{holds_on, turns_on, recorder_moves}
use Rattle.actor_turns.proofs.world.World.turn_recorder.Goals as goal

pub turn-requires : goal.turn-requires
turn-requires g c = let i = c.self.invariant in (i.0.puts, i.0.takes, i.1.passed)

pub invariant_of-self : goal.invariant_of-self
invariant_of-self g c = holds_on _ _ _ _ _ _ (recorder_moves _ _ _ _ (record { left = None; faults = 0 }) (record { held = None; faults = 0 }) _ _ c.turn.ensures.goes_on) c.self.invariant

pub returns-clause-goes_on : goal.returns-clause-goes_on
returns-clause-goes_on g c job console = let v = sym c.self.view_is in rw v (turns_on _ _ _ _ _ _ (recorder_moves _ _ _ _ job console _ _ c.turn.ensures.goes_on))
