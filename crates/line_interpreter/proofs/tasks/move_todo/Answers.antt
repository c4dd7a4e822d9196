use Rattle.std.proofs.Common.{refl}
use Rattle.line_interpreter.proofs.Parts.{move_next}
use Rattle.line_interpreter.proofs.tasks.move_todo.Goals as goal

pub returns-then-goes : goal.returns-then-goes
returns-then-goes c = record { next = λ m is. move_next c.args.mv.now m c.args.stage _ c.if-stage-eq0.true is refl (c.goes.ensures.yes c.if-goes.true) }
