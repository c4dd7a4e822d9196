use Rattle.audit_rules.proofs.ResetShort.{anew_fails, none_left, none_may, over_fails, stop_fails, told_short}
use Rattle.audit_rules.proofs.laws.a_reset_that_is_not_told_is_at_fault.Goals as goal

pub returns-clause-short : goal.returns-clause-short
returns-clause-short c = told_short

pub returns-clause-none : goal.returns-clause-none
returns-clause-none c = none_left

pub returns-clause-refused : goal.returns-clause-refused
returns-clause-refused c = none_may

pub returns-clause-anew : goal.returns-clause-anew
returns-clause-anew c = anew_fails

pub returns-clause-stop : goal.returns-clause-stop
returns-clause-stop c = stop_fails

pub returns-clause-over : goal.returns-clause-over
returns-clause-over c = over_fails
