use Rattle.std.proofs.Common.{rules}
use Rattle.realtime_flags.proofs.Steps.{takes_override}
use Rattle.realtime_flags.proofs.ends.Taker.take_override.Goals as goal

pub fetch_and-bits-requires : goal.fetch_and-bits-requires
fetch_and-bits-requires c = (search rules, search rules, takes_override _ _ _ _ c.args.self.now.mine)
