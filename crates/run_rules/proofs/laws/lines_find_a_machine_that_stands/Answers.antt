use Rattle.run_rules.proofs.Jogging.{stands}
use Rattle.run_rules.proofs.laws.lines_find_a_machine_that_stands.Goals as goal

pub returns : goal.returns
returns c = stands
