use Rattle.std.proofs.Common.{rules}
use Rattle.realtime_flags.proofs.Steps.{raises}
use Rattle.realtime_flags.proofs.ends.Raiser.raise_flag.Goals as goal

pub fetch_or-requires : goal.fetch_or-requires
fetch_or-requires c = (search rules, search rules, raises _ _ _ _ _ _ c.args.flag c.args.self.now.mine c.requires.named (search rules) (search rules) c.requires.few)
