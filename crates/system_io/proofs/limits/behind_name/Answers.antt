use Rattle.system_io.proofs.Told.{unnamed}
use Rattle.system_io.proofs.limits.behind_name.Goals as goal

pub returns-clause-other : goal.returns-clause-other
returns-clause-other c = unnamed _ c.args.line.now c.strip_prefix.result c.strip_prefix.ensures.cases
