use Rattle.board_epochs.specs.Epochs.{closed_log}
use Rattle.board_epochs.proofs.Chaining.{begins_behind, all_done, known_there, done_there, room_there, bytes_there, reports_there}
use Rattle.board_epochs.proofs.Onto.{goes_there}
use Rattle.board_epochs.proofs.laws.ports_count_on_over_epochs.Goals as goal

pub returns-clause-begins : goal.returns-clause-begins
returns-clause-begins c = λ blocks state es closed. (all_done blocks state es closed, goes_there (closed_log es) (begins_behind blocks state es closed))

pub returns-clause-known : goal.returns-clause-known
returns-clause-known c = known_there

pub returns-clause-done : goal.returns-clause-done
returns-clause-done c = done_there

pub returns-clause-room : goal.returns-clause-room
returns-clause-room c = room_there

pub returns-clause-bytes : goal.returns-clause-bytes
returns-clause-bytes c = bytes_there

pub returns-clause-reports : goal.returns-clause-reports
returns-clause-reports c = reports_there
