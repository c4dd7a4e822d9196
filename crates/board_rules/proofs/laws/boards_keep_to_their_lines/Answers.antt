use Rattle.board_rules.proofs.Lines.{bytes_are, lines_follow, became_is, one_by_one}
use Rattle.board_rules.proofs.Keeping.{told_is}
use Rattle.board_rules.proofs.Parting.{asked_is, done_before}
use Rattle.board_rules.proofs.Closing.{one_bye}
use Rattle.board_rules.proofs.laws.boards_keep_to_their_lines.Goals as goal

pub returns-clause-bytes : goal.returns-clause-bytes
returns-clause-bytes c = bytes_are

pub returns-clause-follow : goal.returns-clause-follow
returns-clause-follow c = lines_follow

pub returns-clause-lines : goal.returns-clause-lines
returns-clause-lines c = became_is

pub returns-clause-told : goal.returns-clause-told
returns-clause-told c = told_is

pub returns-clause-bye : goal.returns-clause-bye
returns-clause-bye c = one_bye

pub returns-clause-asked : goal.returns-clause-asked
returns-clause-asked c = asked_is

pub returns-clause-added : goal.returns-clause-added
returns-clause-added c = done_before

pub returns-clause-one_by_one : goal.returns-clause-one_by_one
returns-clause-one_by_one c = one_by_one
