use Rattle.audit_rules.proofs.Behind.{part_makes, line_comes, cut_comes, reset_comes}
use Rattle.audit_rules.proofs.laws.records_stand_behind_a_course.Goals as goal

pub returns-clause-part : goal.returns-clause-part
returns-clause-part c = part_makes

pub returns-clause-line : goal.returns-clause-line
returns-clause-line c = line_comes

pub returns-clause-cut : goal.returns-clause-cut
returns-clause-cut c = cut_comes

pub returns-clause-reset : goal.returns-clause-reset
returns-clause-reset c = reset_comes
