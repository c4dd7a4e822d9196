use Rattle.std.proofs.Common.{◌≡◌, ◌+◌}
use Rattle.answer_rows.proofs.tasks.each_line_is_done_task_by_task.Given as goal

abbrev pub invariant-loop-text : goal.invariant-loop-text
invariant-loop-text g l = l.interpreter.number ≡ l.text-index + 1
