use Rattle.std.proofs.Common.{sym}
use Rattle.list_ports.proofs.Steps.{reports_few}
use Rattle.list_ports.proofs.board_port.ListsBoardPort.take_exec.Goals as goal

pub returns-clause-few : goal.returns-clause-few
returns-clause-few g c asked far l joined = let v = sym c.self.view_is in reports_few _ _ _ _ (rw v at joined) asked
