use Rattle.std.proofs.Common.{sym}
use Rattle.list_ports.proofs.Fronts.{first_is}
use Rattle.list_ports.proofs.Steps.{piece_got}
use Rattle.list_ports.proofs.pulse_port.ListsPulsePort.piece.Goals as goal

pub returns-clause-next : goal.returns-clause-next
returns-clause-next g c far h joined all = let v = sym c.self.view_is in (piece_got _ _ _ _ (rw v at joined) _ _ (first_is _ _ c.in_ok-piece.ensures.value) all).1

pub returns-clause-some : goal.returns-clause-some
returns-clause-some g c far h joined all =
    let v = sym c.self.view_is in
    rw (c.pop_front.ensures.items, c.tick_count-self-inside.ensures) (piece_got _ _ _ _ (rw v at joined) _ _ (first_is _ _ c.in_ok-piece.ensures.value) all).0
