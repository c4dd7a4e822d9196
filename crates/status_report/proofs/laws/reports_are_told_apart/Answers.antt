use Rattle.status_report.proofs.Telling.{report_same}
use Rattle.status_report.proofs.laws.reports_are_told_apart.Goals as goal

pub returns : goal.returns
returns c = report_same
