use Rattle.std.proofs.Common.{◌≡◌, ◌++◌, ◌+◌, ◌≤◌, reverse, length}
use Rattle.stream_host.proofs.unanswered.turn_over.Given as goal

abbrev pub invariant-loop-size : goal.invariant-loop-size
invariant-loop-size l = record {
  list : reverse l.fn.newer.items ≡ l.older.items ++ reverse l.newer.items;
  few : length l.older.items + length l.newer.items ≤ 256;
}

abbrev pub decreases-loop-size : goal.decreases-loop-size
decreases-loop-size l = length l.newer.items
