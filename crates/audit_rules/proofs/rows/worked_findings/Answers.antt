use Rattle.audit_rules.proofs.BadAnswer.{answer_found}
use Rattle.audit_rules.proofs.Refuted.{other_found}
use Rattle.audit_rules.proofs.Worked.{nothing_found, one_step_found, compact_found, no_end_found, more_found, homing_found}
use Rattle.audit_rules.proofs.rows.worked_findings.Goals as goal

pub returns-clause-nothing : goal.returns-clause-nothing
returns-clause-nothing c = nothing_found

pub returns-clause-one_step : goal.returns-clause-one_step
returns-clause-one_step c = one_step_found

pub returns-clause-compact : goal.returns-clause-compact
returns-clause-compact c = compact_found

pub returns-clause-other_step : goal.returns-clause-other_step
returns-clause-other_step c = other_found

pub returns-clause-no_end : goal.returns-clause-no_end
returns-clause-no_end c = no_end_found

pub returns-clause-more : goal.returns-clause-more
returns-clause-more c = more_found

pub returns-clause-other_answer : goal.returns-clause-other_answer
returns-clause-other_answer c = answer_found

pub returns-clause-homing : goal.returns-clause-homing
returns-clause-homing c = homing_found
