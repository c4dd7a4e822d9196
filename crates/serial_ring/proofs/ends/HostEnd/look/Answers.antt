use Rattle.std.proofs.Common.{rules}
use Rattle.serial_ring.proofs.HostSteps.{sees_tail}
use Rattle.serial_ring.proofs.ends.HostEnd.look.Goals as goal

pub load-self-requires : goal.load-self-requires
load-self-requires g c = (search rules, search rules, sees_tail _ _ _ _ _ c.args.self.now.mine.0)
