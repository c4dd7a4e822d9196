use Rattle.epoch_courses.proofs.Banner.{banner_begins}
use Rattle.epoch_law.proofs.BoardingSoFar.{board_runs}
use Rattle.epoch_law.proofs.laws.boards_run.Goals as goal

pub returns : goal.returns
returns c = λ blocks state ticks es opens are low high. board_runs blocks state ticks es opens are low high (banner_begins blocks state es are)
