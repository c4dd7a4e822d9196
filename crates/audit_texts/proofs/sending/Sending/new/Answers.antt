use Rattle.audit_texts.proofs.JobRead.{job_opens}
use Rattle.audit_texts.proofs.sending.Sending.new.Goals as goal

pub returns-clause-opens : goal.returns-clause-opens
returns-clause-opens c = λ source text known. job_opens c.new.result source text c.new.ensures.waiting c.new.ensures.place known
