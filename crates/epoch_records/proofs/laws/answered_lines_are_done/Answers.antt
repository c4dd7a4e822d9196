use Rattle.epoch_records.proofs.Settling.{answered_done}
use Rattle.epoch_records.proofs.laws.answered_lines_are_done.Goals as goal

pub returns : goal.returns
returns c = answered_done
