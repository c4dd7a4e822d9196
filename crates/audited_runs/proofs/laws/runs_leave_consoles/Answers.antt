use Rattle.audited_runs.proofs.Consoles.{console_left}
use Rattle.audited_runs.proofs.laws.runs_leave_consoles.Goals as goal

pub returns : goal.returns
returns c = console_left
