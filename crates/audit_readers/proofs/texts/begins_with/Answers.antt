use Rattle.std.proofs.Common.{◌∙◌, sym}
use Rattle.status_report.specs.Replies.{reply_text}
use Rattle.audit_readers.proofs.Reporting.{named_tells}
use Rattle.audit_readers.proofs.texts.begins_with.Goals as goal

pub returns : goal.returns
returns c =
    let tells = named_tells (reply_text c.args.reply.now) c.args.text.now c.behind_reply.result c.behind_reply.ensures in
    (λ e. tells.0 (sym c.is_some.ensures ∙ e), λ e. c.is_some.ensures ∙ tells.1 e)
