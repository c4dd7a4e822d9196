use Rattle.epoch_effects.proofs.Once.{course_answers, answers_so_far, answers_finished}
use Rattle.epoch_effects.proofs.laws.lines_are_answered_once.Goals as goal

pub returns-clause-course : goal.returns-clause-course
returns-clause-course c = course_answers

pub returns-clause-so_far : goal.returns-clause-so_far
returns-clause-so_far c = answers_so_far

pub returns-clause-finished : goal.returns-clause-finished
returns-clause-finished c = answers_finished
