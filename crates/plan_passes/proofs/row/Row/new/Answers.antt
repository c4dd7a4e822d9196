use Rattle.std.proofs.lemmas.List.{take-replicate}
use Rattle.plan_passes.proofs.row.Row.new.Goals as goal

pub returns : goal.returns
returns g c = take-replicate g.row.N 64 c.args.x c.requires
