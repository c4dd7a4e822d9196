use Rattle.std.proofs.Common.{◌∙◌, [], ◌∷◌, ◌++◌, ap, sym, append_assoc}
use Rattle.std.specs.Prelude.{codes}
use Rattle.status_report.specs.Reports.{state_name, barred, report_fields, report_text}
use Rattle.status_report.proofs.Pieces.{grown}
use Rattle.status_report.proofs.reports.put_report.Goals as goal

pub returns-clause-text : goal.returns-clause-text
unfolding report_text
returns-clause-text c =
    let r = c.args.report.now in
    grown c.args.out.now.items (codes "<") (state_name r.state ∷ barred (report_fields r) ∷ codes ">" ∷ []) c.append-3.new.out.items
    (_, c.append.ensures.text, (_, c.append-2.ensures.text ∙ ap (λ t. c.append.new.out.items ++ t) c.state_name.ensures.text, (_, c.put_fields.ensures.text, c.append-3.ensures.text)))
    ∙ ap (λ t. c.args.out.now.items ++ 60 ∷ t) (sym (append_assoc (state_name r.state) (barred (report_fields r)) (codes ">")))
