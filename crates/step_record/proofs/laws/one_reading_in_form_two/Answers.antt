use Rattle.step_record.proofs.Placed.{first_line, are_lines, one_text_two, forms_apart}
use Rattle.step_record.proofs.Runs.{stand_for}
use Rattle.step_record.proofs.laws.one_reading_in_form_two.Goals as goal

pub returns-clause-first : goal.returns-clause-first
returns-clause-first c = first_line

pub returns-clause-lines : goal.returns-clause-lines
returns-clause-lines c = are_lines

pub returns-clause-records : goal.returns-clause-records
returns-clause-records c = stand_for

pub returns-clause-whole : goal.returns-clause-whole
returns-clause-whole c = one_text_two

pub returns-clause-apart : goal.returns-clause-apart
returns-clause-apart c = forms_apart
