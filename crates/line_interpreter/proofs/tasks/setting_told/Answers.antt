use Rattle.std.proofs.Common.{[], ◌∷◌, arith}
use Rattle.std.proofs.lemmas.Bool.Decides.{nat_tests}
use Rattle.status_report.specs.Lists.{setting_replies}
use Rattle.status_report.specs.declared.Reply.TheVariants as replies
use Rattle.line_interpreter.proofs.Parts.{row_told, ok_told, settings_are}
use Rattle.line_interpreter.proofs.tasks.setting_told.Goals as goal

pub returns-then-place-lt-SETTING_REPLIES-clause-next : goal.returns-then-place-lt-SETTING_REPLIES-clause-next
returns-then-place-lt-SETTING_REPLIES-clause-next c = λ reply is. row_told (setting_replies c.args.settings.now) (replies.Ok ∷ []) c.args.stage _ reply c.setting_reply.ensures.listed is

pub returns-else-place-lt-SETTING_REPLIES-clause-next : goal.returns-else-place-lt-SETTING_REPLIES-clause-next
returns-else-place-lt-SETTING_REPLIES-clause-next c = λ reply is.
    let all = settings_are c.args.settings.now in ok_told (setting_replies c.args.settings.now) c.args.stage reply (grind (arith, nat_tests, all)) is
