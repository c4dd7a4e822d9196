use Rattle.epoch_records.proofs.Publishing.{parts_of_stretches, parts_of_all, parts_of_some}
use Rattle.epoch_records.proofs.laws.pulses_record_parts.Goals as goal

pub returns-clause-stretches : goal.returns-clause-stretches
returns-clause-stretches c = parts_of_stretches

pub returns-clause-all : goal.returns-clause-all
returns-clause-all c = parts_of_all

pub returns-clause-some : goal.returns-clause-some
returns-clause-some c = parts_of_some
