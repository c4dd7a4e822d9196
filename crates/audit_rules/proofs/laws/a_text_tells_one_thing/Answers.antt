use Rattle.audit_rules.proofs.ToldApart.{in_two, no_anew, not_told}
use Rattle.audit_rules.proofs.laws.a_text_tells_one_thing.Goals as goal

pub returns-clause-short : goal.returns-clause-short
returns-clause-short c = not_told

pub returns-clause-between : goal.returns-clause-between
returns-clause-between c = in_two

pub returns-clause-anew : goal.returns-clause-anew
returns-clause-anew c = no_anew
