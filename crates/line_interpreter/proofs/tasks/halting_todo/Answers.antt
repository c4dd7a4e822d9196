use Rattle.std.proofs.Common.{rules}
use Rattle.run_rules.specs.Work.{soft_limit}
use Rattle.status_report.specs.declared.Message.TheVariants as messages
use Rattle.status_report.specs.declared.Reply.TheVariants as replies
use Rattle.line_interpreter.proofs.tasks.halting_todo.Goals as goal

pub returns-in-1 : goal.returns-in-1
returns-in-1 c = record { next = (replies.Alarm soft_limit, search rules) }

pub returns-in-2 : goal.returns-in-2
returns-in-2 c = record { next = (replies.Message messages.ResetToContinue, search rules) }
