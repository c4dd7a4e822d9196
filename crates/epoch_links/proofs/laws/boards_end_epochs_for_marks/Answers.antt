use Rattle.epoch_links.proofs.Asking.{all_asked}
use Rattle.epoch_links.proofs.Ending.{ends_epochs}
use Rattle.epoch_links.proofs.laws.boards_end_epochs_for_marks.Goals as goal

pub returns-clause-asked : goal.returns-clause-asked
returns-clause-asked c = all_asked

pub returns-clause-ends : goal.returns-clause-ends
returns-clause-ends c = ends_epochs
