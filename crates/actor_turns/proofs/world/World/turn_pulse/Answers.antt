use Rattle.std.proofs.Common.{None, sym}
use Rattle.host_journal.specs.Steps.{port_log as host_log}
use Rattle.board_epochs.specs.Epochs.{log_of as board_log}
use Rattle.actor_turns.specs.Worlds.{devices}
use Rattle.actor_turns.proofs.Arms.{holds_on, turns_on, pulse_moves}
use Rattle.actor_turns.proofs.world.World.turn_pulse.Goals as goal

pub turn-requires : goal.turn-requires
turn-requires g c = let i = c.self.invariant in ((host_log i.0.host, board_log i.0.board), i.0.takes, i.0.pulse, i.0.puts, i.1.joined, i.1.passed, i.1.pulse)

pub invariant_of-self : goal.invariant_of-self
invariant_of-self g c = holds_on _ _ _ _ _ _ (pulse_moves _ _ _ _ _ (devices (record { left = None; faults = 0 }) (record { held = None; faults = 0 }) (record { held = None; faults = 0 })) c.turn.ensures.logs c.turn.ensures.stepping) c.self.invariant

pub returns-clause-goes_on : goal.returns-clause-goes_on
returns-clause-goes_on g c now = let v = sym c.self.view_is in rw v (turns_on _ _ _ _ _ _ (pulse_moves _ _ _ _ _ now c.turn.ensures.logs c.turn.ensures.stepping))
