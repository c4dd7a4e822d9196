use Rattle.line_interpreter.proofs.Views.{judged}
use Rattle.line_interpreter.proofs.interpreter.Interpreter.judge.Goals as goal

pub returns-clause-becomes : goal.returns-clause-becomes
returns-clause-becomes c = λ since kept is.
    judged c.self.inside.desk c.judge.new.self c.args.self.now c.args.machine kept since c.judge.result c.self.view_is c.judge.ensures.number (c.judge.ensures.begun since kept is)
