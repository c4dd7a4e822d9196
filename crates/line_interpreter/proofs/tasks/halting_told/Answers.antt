use Rattle.line_interpreter.proofs.Parts.{alarm_told, message_told}
use Rattle.line_interpreter.proofs.tasks.halting_told.Goals as goal

pub returns-then-stage-eq1-clause-next : goal.returns-then-stage-eq1-clause-next
returns-then-stage-eq1-clause-next c = λ reply is. alarm_told c.args.stage reply c.if-stage-eq1.true is

pub returns-else-stage-eq1-clause-next : goal.returns-else-stage-eq1-clause-next
returns-else-stage-eq1-clause-next c = λ reply is. message_told c.args.stage reply c.if-stage-eq1.false is
