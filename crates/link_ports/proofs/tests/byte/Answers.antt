use Rattle.std.proofs.Common.{◌∷◌, refl}
use Rattle.board_journal.specs.Ports.PortStep.{took, found_empty, found_closed}
use Rattle.link_ports.proofs.Standing.{by_byte, line_more, byte_more}
use Rattle.link_ports.proofs.tests.byte.Goals as goal

pub returns-clause-line : goal.returns-clause-line
returns-clause-line c is n q = let t = c.byte.ensures.byte 10 is (_, _, _) q.log (refl, refl, refl, q.did, q.sees) in record { log = took 10 ∷ q.log; did = t.3; sees = t.4; owes = line_more q.log _ q.owes; few = q.few }

pub returns-clause-other : goal.returns-clause-other
returns-clause-other c n q = by_byte c.byte.result
    (λ b is. let t = c.byte.ensures.byte b is (_, _, _) q.log (refl, refl, refl, q.did, q.sees) in record { log = took b ∷ q.log; did = t.3; sees = t.4; owes = byte_more b q.log _ q.owes; few = q.few })
    (λ is. let t = c.byte.ensures.empty is (_, _, _) q.log (refl, refl, refl, q.did, q.sees) in record { log = found_empty ∷ q.log; did = t.3; sees = t.4; owes = q.owes; few = q.few })
    (λ is. let t = c.byte.ensures.closed is (_, _, _) q.log (refl, refl, refl, q.did, q.sees) in record { log = found_closed ∷ q.log; did = t.3; sees = t.4; owes = q.owes; few = q.few })
