use Rattle.std.proofs.Common.{arith}
use Rattle.motion_ports.proofs.tests.publish_all.Goals as goal

pub publish-requires : goal.publish-requires
publish-requires g c =
    let i = c.loop.invariant in
    let ticks = i.2 in
    let pieces = i.3 in
    let few = i.4 in
    record { running = i.0; going = i.1; follows = c.mark.ensures; few = omega (arith, ticks, few); room = omega (arith, pieces, few) }
