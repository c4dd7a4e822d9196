use Rattle.audited_runs.proofs.Steps.{steps_left}
use Rattle.audited_runs.proofs.laws.runs_leave_step_texts.Goals as goal

pub returns : goal.returns
returns c = steps_left
