use Rattle.audit_rules.proofs.Finding.{one_audit, one_count, one_break, one_foreign}
use Rattle.audit_rules.proofs.OneLine.{one_bad_line}
use Rattle.audit_rules.specs.Scanned.{sent_in}
use Rattle.audit_rules.proofs.laws.one_thing_is_found.Goals as goal

pub returns-clause-one : goal.returns-clause-one
returns-clause-one c = one_audit

pub returns-clause-events : goal.returns-clause-events
returns-clause-events c = one_count

pub returns-clause-place : goal.returns-clause-place
returns-clause-place c = one_break

pub returns-clause-foreign : goal.returns-clause-foreign
returns-clause-foreign c = one_foreign

pub returns-clause-replies : goal.returns-clause-replies
returns-clause-replies c job = one_bad_line (sent_in job)
