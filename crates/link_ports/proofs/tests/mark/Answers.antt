use Rattle.std.proofs.Common.{length, refl, ap, rules, arith}
use Rattle.link_ports.proofs.tests.mark.Goals as goal

pub mark-requires : goal.mark-requires
mark-requires c = let q = c.requires in (search rules, ((_, _), q.log, (refl, refl, q.did, q.sees), (let e = ap length q.unmarked in omega arith)))
