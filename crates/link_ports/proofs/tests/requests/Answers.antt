use Rattle.std.proofs.Common.{◌∷◌, refl}
use Rattle.board_journal.specs.Ports.PortStep.{took_exec}
use Rattle.link_ports.proofs.tests.requests.Goals as goal

pub returns : goal.returns
returns c owed n q = let t = c.take_exec.ensures.taken (_, _, _) q.log (refl, refl, refl, q.did, q.sees) in record { log = took_exec c.take_exec.result ∷ q.log; did = t.3; sees = t.4; owes = q.owes; few = q.few }
