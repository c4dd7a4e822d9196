use Rattle.board_epochs.proofs.Greetings.{greeted_now, greeted_at_reset, banner_first}
use Rattle.board_epochs.proofs.laws.epochs_are_greeted_first.Goals as goal

pub returns-clause-now : goal.returns-clause-now
returns-clause-now c = greeted_now

pub returns-clause-reset : goal.returns-clause-reset
returns-clause-reset c = greeted_at_reset

pub returns-clause-all : goal.returns-clause-all
returns-clause-all c = banner_first
