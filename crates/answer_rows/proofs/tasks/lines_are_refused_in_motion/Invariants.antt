use Rattle.std.proofs.Common.{◌≡◌, ◌+◌, ◌*◌}
use Rattle.answer_rows.proofs.tasks.lines_are_refused_in_motion.Given as goal

abbrev pub invariant-loop-text : goal.invariant-loop-text
invariant-loop-text g l = l.interpreter.number ≡ l.text-index * 3 + 1
