use Rattle.board_rules.proofs.Closing.{spent}
use Rattle.board_rules.proofs.laws.boards_end_well.Goals as goal

pub returns : goal.returns
returns c = spent
