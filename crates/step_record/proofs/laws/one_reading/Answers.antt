use Rattle.step_record.proofs.Whole.{has_line, one_line, one_text}
use Rattle.step_record.proofs.laws.one_reading.Goals as goal

pub returns-clause-not_empty : goal.returns-clause-not_empty
returns-clause-not_empty c = has_line

pub returns-clause-first : goal.returns-clause-first
returns-clause-first c = one_line

pub returns-clause-whole : goal.returns-clause-whole
returns-clause-whole c = one_text
