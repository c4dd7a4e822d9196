use Rattle.line_interpreter.proofs.Greeting.{behind_banner}
use Rattle.line_interpreter.proofs.greetings.greeted_told.Goals as goal

pub returns-clause-next : goal.returns-clause-next
returns-clause-next c = λ locked reply is. behind_banner locked c.args.stage reply c.if-stage-eq0.false is
