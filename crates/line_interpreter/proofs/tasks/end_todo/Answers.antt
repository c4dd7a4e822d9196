use Rattle.std.proofs.Common.{rules}
use Rattle.status_report.specs.declared.Reply.TheVariants as replies
use Rattle.status_report.specs.declared.Message.TheVariants as messages
use Rattle.line_interpreter.proofs.tasks.end_todo.Goals as goal

pub returns-in-3-3 : goal.returns-in-3-3
returns-in-3-3 c = record { next = (replies.Message messages.ProgramEnd, search rules) }

pub returns-in-4-2 : goal.returns-in-4-2
returns-in-4-2 c = record { next = (replies.Message messages.ProgramEnd, search rules) }

pub returns-in-5 : goal.returns-in-5
returns-in-5 c = record { next = (replies.Message messages.ProgramEnd, search rules) }
