use Rattle.std.proofs.Common.{◌∷◌, refl, arith}
use Rattle.board_journal.specs.Ports.PortStep.{found_no_halt, found_halt}
use Rattle.link_ports.proofs.Standing.{some_then, none_then}
use Rattle.link_ports.proofs.tests.look.Goals as goal

pub halted-requires : goal.halted-requires
halted-requires c = let q = c.requires in (omega arith, ((_, _, _), q.log, (refl, refl, refl, q.did, q.sees), q.waits))

pub returns-clause-some : goal.returns-clause-some
returns-clause-some c = let q = c.requires in some_then c.halted.result c.halted.ensures.some
    (λ done s. let t = s (_, _, _) q.log (refl, refl, refl, q.did, q.sees) q.waits in record {
      log = found_halt done ∷ q.log;
      did = t.0.3;
      sees = t.0.4;
      running = refl;
      going = q.going;
      few = (let f = q.few in let b = t.1.below in omega arith);
      many = q.many;
    })

pub returns-clause-none : goal.returns-clause-none
returns-clause-none c = let q = c.requires in none_then c.halted.result c.halted.ensures.none
    (λ s. let t = s (_, _, _) q.log (refl, refl, refl, q.did, q.sees) q.waits in record { log = found_no_halt ∷ q.log; did = t.3; sees = t.4; waits = q.waits; going = q.going; few = q.few; many = q.many })
