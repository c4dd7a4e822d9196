use Rattle.std.proofs.Common.{◌≡◌, ◌∙◌, sym, ap, subst, Some, true, false}
use Rattle.status_report.specs.Reports.{IsReport}
use Rattle.status_report.specs.declared.reports.Report.{Report}
use Rattle.audit_readers.proofs.Reporting.{read_again, read_same}
use Rattle.audit_readers.proofs.reports.meant.Goals as goal

pub returns-in_default-clause-each : goal.returns-in_default-clause-each
returns-in_default-clause-each c = λ report rest is widths begins.
    let read = read_again c.args.text.now c.report_at.result c.report_at.ensures report rest is widths begins in
    absurd (c.in_default.not-Some read.0 read.1)

pub returns-then-is_report-clause-each : goal.returns-then-is_report-clause-each
returns-then-is_report-clause-each c = λ report rest is widths begins.
    ap (λ (r : Report). Some r) (read_same c.args.text.now c.report_at.result c.in-Some.report c.in-Some.field-0-1 c.report_at.ensures c.in-Some.is report rest is widths begins)

pub returns-clause-each : goal.returns-clause-each
returns-clause-each c = λ report rest is widths begins.
    let same = read_same c.args.text.now c.report_at.result c.in-Some.report c.in-Some.field-0-1 c.report_at.ensures c.in-Some.is report rest is widths begins in
    let yes = c.is_report.ensures.1 (subst IsReport (sym same) is) in
    absurd (let e : true ≡ false = sym yes ∙ c.if-is_report.false in cc)
