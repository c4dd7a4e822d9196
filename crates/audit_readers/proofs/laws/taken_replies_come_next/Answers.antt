use Rattle.audit_readers.proofs.Going.{goes_on}
use Rattle.audit_readers.proofs.laws.taken_replies_come_next.Goals as goal

pub returns : goal.returns
returns c = goes_on
