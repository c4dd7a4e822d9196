use Rattle.std.proofs.Common.{reverse, sym}
use Rattle.list_ports.proofs.Steps.{pulse_halted}
use Rattle.list_ports.proofs.pulse_port.ListsPulsePort.halt.Goals as goal

pub returns-clause-joined : goal.returns-clause-joined
returns-clause-joined g c far h joined saw = let v = sym c.self.view_is in (reverse c.self.inside.pieces.items, rw c.clear.ensures (pulse_halted _ _ _ _ (rw v at joined) saw))
