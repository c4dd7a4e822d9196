use Rattle.epoch_records.proofs.Asking.{ask_for_no_ending}
use Rattle.epoch_records.proofs.laws.lines_ask_for_no_ending.Goals as goal

pub returns : goal.returns
returns c = ask_for_no_ending
