use Rattle.std.proofs.Common.{true, false, sym}
use Rattle.list_ports.proofs.Steps.{stop_shown}
use Rattle.list_ports.proofs.pulse_port.ListsPulsePort.stopped.Goals as goal

pub returns-clause-waits : goal.returns-clause-waits
returns-clause-waits g c is far h joined = let v = sym c.self.view_is in rw v (stop_shown _ _ _ _ (rw v at joined) true (sym is))

pub returns-clause-none : goal.returns-clause-none
returns-clause-none g c is far h joined = let v = sym c.self.view_is in rw v (stop_shown _ _ _ _ (rw v at joined) false (sym is))
