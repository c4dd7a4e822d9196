use Rattle.std.proofs.Common.{◌≡◌, ◌≤◌, false, length}
use Rattle.serial_ring.specs.Ends.{closed_by, stored_by}
use Rattle.actor_rows.proofs.links.fill.Given as goal

abbrev pub invariant-loop : goal.invariant-loop
invariant-loop g l = (closed_by l.host ≡ false) × (length (stored_by l.host) ≡ l.stored) × (l.stored ≤ 1000)
