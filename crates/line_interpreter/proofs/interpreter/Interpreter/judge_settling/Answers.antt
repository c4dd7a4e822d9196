use Rattle.line_interpreter.proofs.Views.{judged_settling}
use Rattle.line_interpreter.proofs.interpreter.Interpreter.judge_settling.Goals as goal

pub returns-clause-becomes : goal.returns-clause-becomes
returns-clause-becomes c = λ since kept is.
    judged_settling c.self.inside.desk c.judge-accepted.new.self c.args.self.now c.args.machine kept since c.judge-accepted.result c.settles-settles.result c.self.view_is c.judge-accepted.ensures.number c.settles-settles.ensures (c.judge-accepted.ensures.begun since kept is)
