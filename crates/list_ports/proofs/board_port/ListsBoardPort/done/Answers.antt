use Rattle.std.proofs.Common.{sym}
use Rattle.list_ports.proofs.Steps.{done_loaded}
use Rattle.list_ports.proofs.board_port.ListsBoardPort.done.Goals as goal

pub returns-clause-known : goal.returns-clause-known
returns-clause-known g c far l joined = let v = sym c.self.view_is in (done_loaded _ _ _ _ (rw v at joined)).1
