use Rattle.board_rules.proofs.Quieting.{quiet, has_moved, has_done}
use Rattle.board_rules.proofs.Works.{works}
use Rattle.board_rules.proofs.Motions.{motion_is}
use Rattle.board_rules.proofs.laws.boards_stand_where_nothing_moved.Goals as goal

pub returns-clause-quiet : goal.returns-clause-quiet
returns-clause-quiet c = quiet

pub returns-clause-moved : goal.returns-clause-moved
returns-clause-moved c = has_moved

pub returns-clause-works : goal.returns-clause-works
returns-clause-works c = works

pub returns-clause-motion : goal.returns-clause-motion
returns-clause-motion c = motion_is

pub returns-clause-done : goal.returns-clause-done
returns-clause-done c = has_done
