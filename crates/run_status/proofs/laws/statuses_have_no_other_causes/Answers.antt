use Rattle.run_status.proofs.Statuses.{one_cause}
use Rattle.run_status.proofs.laws.statuses_have_no_other_causes.Goals as goal

pub returns : goal.returns
returns c = one_cause
