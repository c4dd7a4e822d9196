use Rattle.run_status.proofs.Completing.{complete}
use Rattle.run_status.proofs.laws.accepted_jobs_are_complete.Goals as goal

pub returns : goal.returns
returns c = complete
