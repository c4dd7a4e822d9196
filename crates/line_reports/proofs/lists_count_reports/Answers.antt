use Rattle.line_reports.proofs.Counting.{reports_per_line}
use Rattle.line_reports.proofs.lists_count_reports.Goals as goal

pub returns : goal.returns
returns c = reports_per_line
