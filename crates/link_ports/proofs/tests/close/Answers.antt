use Rattle.std.proofs.Common.{refl, rules}
use Rattle.link_ports.proofs.tests.close.Goals as goal

pub close-requires : goal.close-requires
close-requires c = let q = c.requires in (search rules, ((_, _), q.log, (refl, refl, q.did, q.sees), q.going))
