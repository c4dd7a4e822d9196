use Rattle.std.proofs.Common.{rules}
use Rattle.motion_ring.proofs.Getting.{asks}
use Rattle.motion_ring.proofs.ends.SegIn.stopped.Goals as goal

pub load-requires : goal.load-requires
load-requires c = (search rules, search rules, asks _ _ _ _ c.args.self.now.mine.0)
