use Rattle.std.proofs.Common.{◌≡◌, ◌≤◌, length}
use Rattle.answer_rows.proofs.tasks.work.Given as goal

abbrev pub invariant-loop : goal.invariant-loop
invariant-loop l = record {
  number : l.interpreter.number ≡ l.fn.interpreter.number;
  room : length l.letters.items ≤ l.counter;
}
