use Rattle.line_interpreter.proofs.Greeting.{behind_alarm}
use Rattle.line_interpreter.proofs.greetings.alarmed_told.Goals as goal

pub returns-clause-next : goal.returns-clause-next
returns-clause-next c = λ locked reply is. behind_alarm locked c.args.stage reply c.if-stage-eq0.false c.if-stage-eq1.false is
