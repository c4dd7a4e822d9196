use Rattle.std.proofs.Common.{◌∷◌, refl}
use Rattle.host_journal.specs.Steps.PortStep.{got, no_reply}
use Rattle.link_ports.proofs.Standing.{by_option}
use Rattle.link_ports.proofs.tests.reply.Goals as goal

pub returns : goal.returns
returns c n q = by_option c.reply.result c.reply.ensures.some c.reply.ensures.none
    (λ r s. let t = s (_, _) q.log (refl, refl, q.did, q.sees) in record { log = got r ∷ q.log; did = t.2; sees = t.3; going = q.going; few = q.few; unmarked = q.unmarked })
    (λ s. let t = s (_, _) q.log (refl, refl, q.did, q.sees) in record { log = no_reply ∷ q.log; did = t.2; sees = t.3; going = q.going; few = q.few; unmarked = q.unmarked })
