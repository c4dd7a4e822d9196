use Rattle.std.proofs.Common.{arith}
use Rattle.list_ports.proofs.Standing.{may_publish, published_one}
use Rattle.list_ports.proofs.tests.publish.Goals as goal

pub publish-requires : goal.publish-requires
publish-requires c = let q = c.requires in let w = c.ranges.ticks.fits in (omega arith, ((q.host, q.pulse), q.board, q.joined, may_publish _ _ q (omega arith)))

pub returns-in-Ok : goal.returns-in-Ok
returns-in-Ok c = λ is. let q = c.requires in let w = c.ranges.ticks.fits in published_one _ _ _ q (c.in-Ok.ensures.ok (q.host, q.pulse) q.board q.joined (may_publish _ _ q (omega arith)))
