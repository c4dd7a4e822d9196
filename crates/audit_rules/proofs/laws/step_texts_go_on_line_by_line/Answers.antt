use Rattle.audit_rules.proofs.Lines.{go_on}
use Rattle.audit_rules.proofs.laws.step_texts_go_on_line_by_line.Goals as goal

pub returns : goal.returns
returns c = go_on
