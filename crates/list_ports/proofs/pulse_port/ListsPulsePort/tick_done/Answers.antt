use Rattle.std.proofs.Common.{sym, arith}
use Rattle.list_ports.proofs.Steps.{few_done, tick_counted}
use Rattle.list_ports.proofs.pulse_port.ListsPulsePort.tick_done.Goals as goal

pub overflow_add-self : goal.overflow_add-self
overflow_add-self g c = let v = sym c.self.view_is in let q = c.requires in let f = few_done _ _ _ _ (rw v at q.2) in omega (arith, f)

pub returns : goal.returns
returns g c far h joined more = let v = sym c.self.view_is in tick_counted _ _ _ _ (rw v at joined) more
