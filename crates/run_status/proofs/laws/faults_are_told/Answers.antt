use Rattle.run_status.proofs.Statuses.{tells_faults}
use Rattle.run_status.proofs.laws.faults_are_told.Goals as goal

pub returns : goal.returns
returns c = tells_faults
