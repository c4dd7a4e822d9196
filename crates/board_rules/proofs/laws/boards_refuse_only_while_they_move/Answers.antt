use Rattle.board_rules.proofs.Refusing.{found_moving}
use Rattle.board_rules.proofs.laws.boards_refuse_only_while_they_move.Goals as goal

pub returns : goal.returns
returns c = record { moving = found_moving }
