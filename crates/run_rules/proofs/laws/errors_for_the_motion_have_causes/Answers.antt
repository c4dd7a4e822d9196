use Rattle.run_rules.proofs.Causes.{eight, nine}
use Rattle.run_rules.proofs.laws.errors_for_the_motion_have_causes.Goals as goal

pub returns-clause-eight : goal.returns-clause-eight
returns-clause-eight c = eight

pub returns-clause-nine : goal.returns-clause-nine
returns-clause-nine c = nine
