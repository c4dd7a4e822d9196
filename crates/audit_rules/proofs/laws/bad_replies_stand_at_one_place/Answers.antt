use Rattle.audit_rules.proofs.BadReplies.{no_banner, one_rest}
use Rattle.audit_rules.proofs.laws.bad_replies_stand_at_one_place.Goals as goal

pub returns-clause-no_banner : goal.returns-clause-no_banner
returns-clause-no_banner c = no_banner

pub returns-clause-rest : goal.returns-clause-rest
returns-clause-rest c = one_rest
