use Rattle.epoch_courses.proofs.Fits.{finished_fits, so_far_fits, marked_fits}
use Rattle.epoch_courses.proofs.laws.epochs_fit_the_texts.Goals as goal

pub returns-clause-fits : goal.returns-clause-fits
returns-clause-fits c = finished_fits

pub returns-clause-so_far : goal.returns-clause-so_far
returns-clause-so_far c = so_far_fits

pub returns-clause-marked : goal.returns-clause-marked
returns-clause-marked c = marked_fits
