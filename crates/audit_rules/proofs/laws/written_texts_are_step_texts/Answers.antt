use Rattle.audit_rules.proofs.Written.{lines_written, written_again}
use Rattle.audit_rules.proofs.laws.written_texts_are_step_texts.Goals as goal

pub returns-clause-written : goal.returns-clause-written
returns-clause-written c = lines_written

pub returns-clause-read : goal.returns-clause-read
returns-clause-read c = written_again
