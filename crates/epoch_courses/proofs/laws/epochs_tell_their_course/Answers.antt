use Rattle.epoch_courses.proofs.Banner.{banner_begins, console_told}
use Rattle.epoch_courses.proofs.Told.{epochs_tell, finished_tell, told_so_far, marked_told}
use Rattle.epoch_courses.proofs.laws.epochs_tell_their_course.Goals as goal

pub returns-clause-told : goal.returns-clause-told
returns-clause-told c = epochs_tell

pub returns-clause-finished : goal.returns-clause-finished
returns-clause-finished c = finished_tell

pub returns-clause-so_far : goal.returns-clause-so_far
returns-clause-so_far c = told_so_far

pub returns-clause-console : goal.returns-clause-console
returns-clause-console c = console_told

pub returns-clause-begins : goal.returns-clause-begins
returns-clause-begins c = banner_begins

pub returns-clause-marked : goal.returns-clause-marked
returns-clause-marked c = marked_told
