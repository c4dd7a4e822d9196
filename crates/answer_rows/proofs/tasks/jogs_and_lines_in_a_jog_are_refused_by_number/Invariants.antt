use Rattle.std.proofs.Common.{◌≡◌, ◌+◌}
use Rattle.answer_rows.proofs.tasks.jogs_and_lines_in_a_jog_are_refused_by_number.Given as goal

abbrev pub invariant-loop-text : goal.invariant-loop-text
invariant-loop-text g l = l.interpreter.number ≡ l.text-index + 1
