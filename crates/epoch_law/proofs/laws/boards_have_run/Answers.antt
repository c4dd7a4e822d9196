use Rattle.board_journal.specs.Steps.{known_of}
use Rattle.epoch_courses.proofs.Banner.{finished_begins}
use Rattle.epoch_law.proofs.Boarding.{board_ran}
use Rattle.epoch_law.proofs.laws.boards_have_run.Goals as goal

pub returns : goal.returns
returns c = λ blocks state es h opens are over. let begins = finished_begins blocks state (known_of h) es h are over in board_ran blocks state es h are over begins.0 opens begins.1
