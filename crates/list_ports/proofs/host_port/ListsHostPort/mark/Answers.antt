use Rattle.std.proofs.Common.{sym}
use Rattle.list_ports.proofs.Steps.{mark_stored}
use Rattle.list_ports.proofs.host_port.ListsHostPort.mark.Goals as goal

pub returns : goal.returns
returns g c far h joined may = let v = sym c.self.view_is in mark_stored _ _ _ _ (rw v at joined)
