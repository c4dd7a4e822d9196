use Rattle.std.proofs.Common.{rules}
use Rattle.motion_ring.proofs.Publishing.{stops}
use Rattle.motion_ring.proofs.ends.SegOut.stop.Goals as goal

pub store-requires : goal.store-requires
store-requires c = let o = c.args.self.now in (search rules, search rules, stops _ _ _ _ _ o.mine.0 c.requires o.counted)
