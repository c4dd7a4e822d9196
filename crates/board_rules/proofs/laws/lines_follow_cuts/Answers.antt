use Rattle.board_rules.proofs.Numbers.{passed_are}
use Rattle.board_rules.proofs.laws.lines_follow_cuts.Goals as goal

pub returns : goal.returns
returns c = passed_are
