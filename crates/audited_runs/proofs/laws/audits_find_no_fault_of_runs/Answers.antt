use Rattle.audited_runs.proofs.Found.{no_fault}
use Rattle.audited_runs.proofs.laws.audits_find_no_fault_of_runs.Goals as goal

pub returns : goal.returns
returns c = λ job is left a found. no_fault job left.console left.steps left.events left.fit a found
