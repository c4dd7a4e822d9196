use Rattle.audited_runs.proofs.Cuts.{slows_counted}
use Rattle.audited_runs.proofs.laws.runs_scan_the_cuts_of_their_lines.Goals as goal

pub returns : goal.returns
returns c = λ attended room blocks form job_was job_is was is end run. slows_counted run.scanned run.lines run.rest run.sending.is_rest
