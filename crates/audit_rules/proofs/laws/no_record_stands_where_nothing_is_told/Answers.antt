use Rattle.audit_rules.proofs.Late.{late_cut, late_reset}
use Rattle.audit_rules.proofs.NoRecord.{no_record}
use Rattle.audit_rules.proofs.laws.no_record_stands_where_nothing_is_told.Goals as goal

pub returns-clause-none : goal.returns-clause-none
returns-clause-none c = no_record

pub returns-clause-cut : goal.returns-clause-cut
returns-clause-cut c = late_cut

pub returns-clause-reset : goal.returns-clause-reset
returns-clause-reset c = late_reset
