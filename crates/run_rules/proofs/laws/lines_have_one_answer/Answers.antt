use Rattle.run_rules.proofs.Answering.{one_answer, lines_answered}
use Rattle.run_rules.proofs.laws.lines_have_one_answer.Goals as goal

pub returns-clause-last : goal.returns-clause-last
returns-clause-last c = one_answer

pub returns-clause-all : goal.returns-clause-all
returns-clause-all c = λ runs first last lines outcomes f. lines_answered runs first lines outcomes last f
