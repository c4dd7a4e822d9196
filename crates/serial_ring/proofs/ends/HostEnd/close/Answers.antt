use Rattle.std.proofs.Common.{rules, arith}
use Rattle.serial_ring.proofs.HostSteps.{shuts}
use Rattle.serial_ring.proofs.ends.HostEnd.close.Goals as goal

pub store-requires : goal.store-requires
store-requires g c = let o = c.args.self.now in (search rules, search rules, shuts _ _ _ _ _ _ o.mine.0 c.requires.still (omega arith))
