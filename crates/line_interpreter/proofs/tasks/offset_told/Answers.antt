use Rattle.std.proofs.Common.{[], ◌∷◌, arith}
use Rattle.std.proofs.lemmas.Bool.Decides.{nat_tests}
use Rattle.status_report.specs.Lists.{offset_replies}
use Rattle.status_report.specs.declared.Reply.TheVariants as replies
use Rattle.line_interpreter.proofs.Parts.{row_told, ok_told, offsets_are}
use Rattle.line_interpreter.proofs.tasks.offset_told.Goals as goal

pub returns-then-place-lt-OFFSET_REPLIES-clause-next : goal.returns-then-place-lt-OFFSET_REPLIES-clause-next
returns-then-place-lt-OFFSET_REPLIES-clause-next c = λ reply is. row_told (offset_replies c.args.offsets.now) (replies.Ok ∷ []) c.args.stage _ reply c.offset_reply.ensures.listed is

pub returns-else-place-lt-OFFSET_REPLIES-clause-next : goal.returns-else-place-lt-OFFSET_REPLIES-clause-next
returns-else-place-lt-OFFSET_REPLIES-clause-next c = λ reply is.
    let all = offsets_are c.args.offsets.now in ok_told (offset_replies c.args.offsets.now) c.args.stage reply (grind (arith, nat_tests, all)) is
