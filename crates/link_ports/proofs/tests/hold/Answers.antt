use Rattle.std.proofs.Common.{◌∷◌, refl, rules}
use Rattle.host_journal.specs.Steps.PortStep.{raised}
use Rattle.link_ports.proofs.tests.hold.Goals as goal

pub raise-requires : goal.raise-requires
raise-requires c = let q = c.requires in (search rules, ((_, _), q.log, (refl, refl, q.did, q.sees), λ e. absurd cc))

pub returns : goal.returns
returns c =
    let q = c.requires in
    let s = c.raise.ensures.raised (_, _) q.log (refl, refl, q.did, q.sees) (λ e. absurd cc) in
    record { log = raised 33 s.0 ∷ q.log; did = s.1.2; sees = s.1.3; going = q.going; few = q.few; unmarked = q.unmarked }
