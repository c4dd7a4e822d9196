use Rattle.epoch_links.proofs.Courses.{course_drops}
use Rattle.epoch_links.proofs.Meeting.{drops_few, forgets_dropped}
use Rattle.epoch_links.proofs.laws.resets_drop_few_lines.Goals as goal

pub returns-clause-course : goal.returns-clause-course
returns-clause-course c = course_drops

pub returns-clause-run : goal.returns-clause-run
returns-clause-run c = drops_few

pub returns-clause-forgotten : goal.returns-clause-forgotten
returns-clause-forgotten c = forgets_dropped
