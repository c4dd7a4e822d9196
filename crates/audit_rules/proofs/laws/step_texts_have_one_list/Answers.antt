use Rattle.audit_rules.proofs.Lines.{one_list}
use Rattle.audit_rules.proofs.laws.step_texts_have_one_list.Goals as goal

pub returns : goal.returns
returns c = one_list
