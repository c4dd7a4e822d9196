use Rattle.demo_law.proofs.Cutting.{accepted, as_many}
use Rattle.demo_law.proofs.demo_jobs_are_accepted.Goals as goal

pub returns : goal.returns
returns c = record { accepted = accepted; lines = as_many }
