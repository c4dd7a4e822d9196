use Rattle.audit_rules.proofs.Found.{bad_found, foreign_found, misfit_found, none_earlier}
use Rattle.audit_rules.proofs.laws.each_fault_is_found.Goals as goal

pub returns-clause-foreign : goal.returns-clause-foreign
returns-clause-foreign c = foreign_found

pub returns-clause-late : goal.returns-clause-late
returns-clause-late c = none_earlier

pub returns-clause-replies : goal.returns-clause-replies
returns-clause-replies c = bad_found

pub returns-clause-records : goal.returns-clause-records
returns-clause-records c = misfit_found
