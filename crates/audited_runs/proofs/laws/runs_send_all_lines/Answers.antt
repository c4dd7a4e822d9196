use Rattle.audited_runs.proofs.Sending.{all_lines_sent}
use Rattle.audited_runs.proofs.Whole.{all_is_sent}
use Rattle.audited_runs.proofs.laws.runs_send_all_lines.Goals as goal

pub returns-clause-lines : goal.returns-clause-lines
returns-clause-lines c = all_lines_sent

pub returns-clause-rest : goal.returns-clause-rest
returns-clause-rest c = all_is_sent
