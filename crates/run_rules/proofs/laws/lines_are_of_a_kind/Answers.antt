use Rattle.run_rules.proofs.Fates.{fate}
use Rattle.run_rules.proofs.laws.lines_are_of_a_kind.Goals as goal

pub returns : goal.returns
returns c = fate
