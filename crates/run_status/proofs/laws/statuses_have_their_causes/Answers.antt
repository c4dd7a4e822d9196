use Rattle.run_status.proofs.Endings.{has_causes}
use Rattle.run_status.proofs.Statuses.{has_its_cause}
use Rattle.run_status.proofs.laws.statuses_have_their_causes.Goals as goal

pub returns-clause-causes : goal.returns-clause-causes
returns-clause-causes c = has_causes

pub returns-clause-its_cause : goal.returns-clause-its_cause
returns-clause-its_cause c = has_its_cause
