use Rattle.epoch_records.proofs.Ending.{cut_recorded, end_recorded}
use Rattle.epoch_records.proofs.Halting.{reset_recorded}
use Rattle.epoch_records.proofs.laws.parts_are_recorded.Goals as goal
use Rattle.run_texts.proofs.Making.{finished}

pub returns-clause-reset : goal.returns-clause-reset
returns-clause-reset c = reset_recorded

pub returns-clause-finished : goal.returns-clause-finished
returns-clause-finished c = λ place p r e mine ends is put. finished place p mine (reset_recorded place p r e mine ends is put)

pub returns-clause-cut : goal.returns-clause-cut
returns-clause-cut c = cut_recorded

pub returns-clause-end : goal.returns-clause-end
returns-clause-end c = end_recorded
