use Rattle.std.proofs.Common.{rules}
use Rattle.serial_ring.proofs.BoardSteps.{sees_mark}
use Rattle.serial_ring.proofs.ends.BoardEnd.marked.Goals as goal

pub load-word-requires : goal.load-word-requires
load-word-requires g c = (search rules, search rules, sees_mark _ _ _ _ _ c.args.self.now.mine.0)
