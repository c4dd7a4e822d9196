use Rattle.std.proofs.Common.{rules}
use Rattle.status_report.specs.declared.Reply.TheVariants as replies
use Rattle.line_interpreter.proofs.tasks.closing_todo.Goals as goal

pub returns-in-1 : goal.returns-in-1
returns-in-1 c = record { next = (replies.Bye, search rules) }
