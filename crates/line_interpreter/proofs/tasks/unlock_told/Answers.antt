use Rattle.std.proofs.Common.{[], ◌∷◌, arith}
use Rattle.status_report.specs.declared.Message.TheVariants.{Unlocked}
use Rattle.status_report.specs.declared.Reply.TheVariants as replies
use Rattle.line_interpreter.proofs.Parts.{ok_told}
use Rattle.line_interpreter.proofs.tasks.unlock_told.Goals as goal

pub returns-else-stage-eq0-clause-next : goal.returns-else-stage-eq0-clause-next
returns-else-stage-eq0-clause-next c = λ reply is.
    let past = c.if-stage-eq0.false in ok_told (replies.Message Unlocked ∷ []) c.args.stage reply (grind (arith, past)) is
