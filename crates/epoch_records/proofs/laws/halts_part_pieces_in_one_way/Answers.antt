use Rattle.epoch_records.proofs.Epochs.{one_parting}
use Rattle.epoch_records.proofs.laws.halts_part_pieces_in_one_way.Goals as goal

pub returns : goal.returns
returns c = one_parting
