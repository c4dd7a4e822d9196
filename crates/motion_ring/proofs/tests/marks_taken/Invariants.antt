use Rattle.std.proofs.Common.{◌≡◌, ◌+◌, ◌<◌, ◌≤◌, false, length}
use Rattle.step_line.specs.Ordering.{has_ended}
use Rattle.motion_ring.specs.Sides.{ticks_published}
use Rattle.motion_ring.specs.Ends.{ring_of_out, sent_by, published_by}
use Rattle.motion_ring.proofs.tests.marks_taken.Given as goal

abbrev pub invariant-loop-tried : goal.invariant-loop-tried
invariant-loop-tried l = ((sent_by l.out).waits ≡ false) × (has_ended (published_by l.out) ≡ false) × (ticks_published (sent_by l.out) < 100 + l.tried) × (length (published_by l.out) < 100 + l.tried) × (l.taken ≤ l.tried) × (ring_of_out l.out ≡ ring_of_out l.fn.out)
