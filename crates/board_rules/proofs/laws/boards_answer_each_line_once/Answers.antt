use Rattle.board_rules.proofs.Answering.{answers_are, answer_is_due}
use Rattle.board_rules.proofs.Greeting.{may_answer}
use Rattle.board_rules.proofs.laws.boards_answer_each_line_once.Goals as goal

pub returns-clause-answers : goal.returns-clause-answers
returns-clause-answers c = answers_are

pub returns-clause-due : goal.returns-clause-due
returns-clause-due c = answer_is_due

pub returns-clause-fits : goal.returns-clause-fits
returns-clause-fits c = may_answer
