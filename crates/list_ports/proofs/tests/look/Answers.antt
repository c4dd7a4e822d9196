use Rattle.std.proofs.Common.{◌∷◌, arith}
use Rattle.board_journal.specs.Ports.PortStep.{found_no_halt}
use Rattle.list_ports.proofs.Standing.{some_then, none_then, found_then}
use Rattle.list_ports.proofs.tests.look.Goals as goal

pub halted-requires : goal.halted-requires
halted-requires c = let q = c.requires in (omega arith, ((q.host, q.pulse), q.board, q.joined, q.waits))

pub returns-clause-some : goal.returns-clause-some
returns-clause-some c = let q = c.requires in some_then c.halted.result c.halted.ensures.some
    (λ done s. let t = s (q.host, q.pulse) q.board q.joined q.waits in found_then _ _ _ q done t.0 t.1)

pub returns-clause-none : goal.returns-clause-none
returns-clause-none c = let q = c.requires in none_then c.halted.result c.halted.ensures.none
    (λ s. record { host = q.host; board = found_no_halt ∷ q.board; pulse = q.pulse; joined = s (q.host, q.pulse) q.board q.joined q.waits; waits = q.waits; going = q.going; few = q.few; many = q.many; counted = q.counted })
