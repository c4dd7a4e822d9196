use Rattle.std.proofs.Common.{◌∙◌, ap, rules}
use Rattle.status_report.specs.Replies.{reply_text}
use Rattle.audit_readers.specs.Console.{ConsoleRead}
use Rattle.audit_readers.proofs.Skipping.{taken_front}
use Rattle.audit_readers.proofs.console.ConsoleReader.take.Goals as goal

pub returns-clause-taken : goal.returns-clause-taken
returns-clause-taken c = λ e.
    taken_front (reply_text c.args.reply.now) c.waiting.result.now c.args.self.now.window.waiting c.skip.new.self.window.waiting c.reply_len-count.result
    (c.waiting.ensures ∙ ap (λ (r : ConsoleRead). r.window.waiting) c.self.view_is) (c.begins_with.ensures.0 (search rules)) c.reply_len-count.ensures.len c.skip.ensures.waiting
