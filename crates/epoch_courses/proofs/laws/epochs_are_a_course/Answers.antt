use Rattle.epoch_courses.proofs.Chain.{epochs_lead, epochs_follow, marked_leads}
use Rattle.epoch_courses.proofs.Halted.{made_there}
use Rattle.epoch_courses.proofs.laws.epochs_are_a_course.Goals as goal

pub returns-clause-leads : goal.returns-clause-leads
returns-clause-leads c = epochs_lead

pub returns-clause-follows : goal.returns-clause-follows
returns-clause-follows c = epochs_follow

pub returns-clause-halted : goal.returns-clause-halted
returns-clause-halted c = made_there

pub returns-clause-marked : goal.returns-clause-marked
returns-clause-marked c = marked_leads
