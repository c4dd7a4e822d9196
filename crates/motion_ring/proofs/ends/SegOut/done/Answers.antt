use Rattle.std.proofs.Common.{rules}
use Rattle.motion_ring.proofs.Ticks.{few_known}
use Rattle.motion_ring.proofs.Publishing.{sees}
use Rattle.motion_ring.proofs.ends.SegOut.done.Goals as goal

pub load-requires : goal.load-requires
load-requires c = (search rules, search rules, sees _ _ _ _ c.args.self.now.mine.0)

pub returns-clause-few : goal.returns-clause-few
returns-clause-few c = let told = c.load.ensures.2.0 in few_known _ _ told
