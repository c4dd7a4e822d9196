use Rattle.std.proofs.Common.{◌∙◌}
use Rattle.audit_texts.proofs.JobTold.{differ}
use Rattle.run_audit.proofs.Under.{goes_on_by}
use Rattle.run_audit.proofs.auditor.Auditor.read_job.Goals as goal

pub returns-then-has_told_alarm-clause-read_on : goal.returns-then-has_told_alarm-clause-read_on
returns-then-has_told_alarm-clause-read_on g c = λ console steps jt ct st r. r

pub returns-then-has_told_alarm-clause-ended : goal.returns-then-has_told_alarm-clause-ended
returns-then-has_told_alarm-clause-ended g c = λ console steps jt ct st r none. differ c.has_told_alarm.result c.if-has_told_alarm.true (c.has_told_alarm.ensures.is ∙ none)

pub returns-clause-ended : goal.returns-clause-ended
returns-clause-ended g c = goes_on_by c.read_on.result (λ done ended console steps jt ct st r none. ended console steps jt ct st r) c.read_on.ensures.ended

pub returns-clause-told : goal.returns-clause-told
returns-clause-told g c = goes_on_by c.read_on.result (λ done over told. differ c.has_told_alarm.result (c.has_told_alarm.ensures.is ∙ told) c.if-has_told_alarm.false) c.read_on.ensures.over
