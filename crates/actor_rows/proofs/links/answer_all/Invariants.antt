use Rattle.std.proofs.Common.{◌≡◌, ◌≤◌, length}
use Rattle.serial_ring.specs.Ends.{answered_by}
use Rattle.actor_rows.proofs.links.answer_all.Given as goal

abbrev pub invariant-loop : goal.invariant-loop
invariant-loop g l = (length (answered_by l.board) ≡ l.answered) × (l.answered ≤ 1000000)
