use Rattle.board_epochs.proofs.Asking.{number_there}
use Rattle.board_epochs.proofs.Bounding.{few_epochs, few_behind, marked_behind}
use Rattle.board_epochs.proofs.laws.closed_epochs_are_bounded.Goals as goal

pub returns-clause-epochs : goal.returns-clause-epochs
returns-clause-epochs c = few_epochs

pub returns-clause-few : goal.returns-clause-few
returns-clause-few c = few_behind

pub returns-clause-marked : goal.returns-clause-marked
returns-clause-marked c = marked_behind

pub returns-clause-numbers : goal.returns-clause-numbers
returns-clause-numbers c = number_there
