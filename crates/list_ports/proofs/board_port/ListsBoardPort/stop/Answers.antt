use Rattle.std.proofs.Common.{sym}
use Rattle.list_ports.proofs.Steps.{stop_stored}
use Rattle.list_ports.proofs.board_port.ListsBoardPort.stop.Goals as goal

pub returns : goal.returns
returns g c far l joined may = let v = sym c.self.view_is in stop_stored _ _ _ _ (rw v at joined) may
