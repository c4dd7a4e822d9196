use Rattle.epoch_records.proofs.Publishing.{epochs_of_pulse, some_epochs_of_pulse}
use Rattle.epoch_records.proofs.laws.published_pieces_are_epochs.Goals as goal

pub returns-clause-all : goal.returns-clause-all
returns-clause-all c = epochs_of_pulse

pub returns-clause-some : goal.returns-clause-some
returns-clause-some c = some_epochs_of_pulse
