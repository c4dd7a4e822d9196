use Rattle.epoch_records.proofs.Pulsing.{recorded_over, done_over, since_over, all_pieces, halts_end}
use Rattle.epoch_records.proofs.laws.pulses_put_stretches.Goals as goal

pub returns-clause-recorded : goal.returns-clause-recorded
returns-clause-recorded c = recorded_over

pub returns-clause-done : goal.returns-clause-done
returns-clause-done c = done_over

pub returns-clause-pieces : goal.returns-clause-pieces
returns-clause-pieces c = all_pieces

pub returns-clause-halts : goal.returns-clause-halts
returns-clause-halts c = halts_end

pub returns-clause-so_far : goal.returns-clause-so_far
returns-clause-so_far c = since_over
