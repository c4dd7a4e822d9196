use Rattle.board_rules.proofs.Limits.{lines_in_bytes, given_by_lines, answered_by_lines, few_lines, few_given, few_next, few_answered}
use Rattle.board_rules.proofs.laws.boards_do_a_bounded_amount.Goals as goal

pub returns-clause-lines : goal.returns-clause-lines
returns-clause-lines c = few_lines

pub returns-clause-ticks : goal.returns-clause-ticks
returns-clause-ticks c = few_given

pub returns-clause-piece : goal.returns-clause-piece
returns-clause-piece c = few_next

pub returns-clause-replies : goal.returns-clause-replies
returns-clause-replies c = few_answered

pub returns-clause-bytes : goal.returns-clause-bytes
returns-clause-bytes c = lines_in_bytes

pub returns-clause-ticks_of_lines : goal.returns-clause-ticks_of_lines
returns-clause-ticks_of_lines c = given_by_lines

pub returns-clause-replies_of_lines : goal.returns-clause-replies_of_lines
returns-clause-replies_of_lines c = answered_by_lines
