use Rattle.std.proofs.Common.{◌∷◌, true, refl, arith}
use Rattle.pulse_engine.specs.Logs.PieceEvent.{asked, halted}
use Rattle.list_ports.proofs.tests.halt.Goals as goal

pub halt-requires : goal.halt-requires
halt-requires c = let q = c.requires in (omega arith, ((q.host, q.board), asked true ∷ q.pulse, c.stopped.ensures.waits c.if-stopped.true (q.host, q.board) q.pulse q.joined, refl))

pub returns-then-stopped : goal.returns-then-stopped
returns-then-stopped c = λ is. let q = c.requires in
    let j = c.stopped.ensures.waits c.if-stopped.true (q.host, q.board) q.pulse q.joined in
    let d = c.halt.ensures.joined (q.host, q.board) (asked true ∷ q.pulse) j refl in
    record { host = q.host; board = q.board; pulse = halted d.0 ∷ (asked true ∷ q.pulse); joined = d.1; waits = q.waits; going = q.going; few = q.few; many = q.many; counted = refl }
