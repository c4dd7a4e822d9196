use Rattle.std.proofs.Common.{rules, arith}
use Rattle.serial_ring.proofs.HostSteps.{sets_mark}
use Rattle.serial_ring.proofs.ends.HostEnd.mark.Goals as goal

pub store-requires : goal.store-requires
store-requires g c = let o = c.args.self.now in let m = o.marked in let b = o.bytes.0 in let p = c.packed-word.ensures in let f = c.requires in (search rules, search rules, sets_mark _ _ _ _ _ _ o.mine.0 (omega arith) (omega arith))
