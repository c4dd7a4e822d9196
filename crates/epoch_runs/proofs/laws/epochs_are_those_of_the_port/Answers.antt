use Rattle.epoch_runs.proofs.Open.{epochs_open, stopping_there}
use Rattle.epoch_runs.proofs.Sent.{epochs_over, epochs_sent, epochs_halted}
use Rattle.epoch_runs.proofs.laws.epochs_are_those_of_the_port.Goals as goal

pub returns-clause-over : goal.returns-clause-over
returns-clause-over c = λ blocks state es h are. epochs_over blocks state es h are.0

pub returns-clause-pieces : goal.returns-clause-pieces
returns-clause-pieces c = epochs_sent

pub returns-clause-halts : goal.returns-clause-halts
returns-clause-halts c = epochs_halted

pub returns-clause-so_far : goal.returns-clause-so_far
returns-clause-so_far c = λ blocks state ticks es are low high. (epochs_open blocks state ticks es are low high).are

pub returns-clause-known : goal.returns-clause-known
returns-clause-known c = λ blocks state ticks es are low high. (epochs_open blocks state ticks es are low high).known

pub returns-clause-stops : goal.returns-clause-stops
returns-clause-stops c = stopping_there
