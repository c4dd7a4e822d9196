use Rattle.std.proofs.Common.{◌≡◌, ◌≤◌, false, length}
use Rattle.step_line.specs.Ordering.{has_ended}
use Rattle.motion_ring.specs.Sides.{published_in, ticks_published}
use Rattle.motion_ring.specs.Ends.{sent_by}
use Rattle.motion_ports.proofs.tests.publish_all.Given as goal

abbrev pub invariant-loop : goal.invariant-loop
invariant-loop g l = ((sent_by l.out).waits ≡ false) × (has_ended (published_in (sent_by l.out)) ≡ false) × (ticks_published (sent_by l.out) ≡ l.published) × (length (published_in (sent_by l.out)) ≡ l.published) × (l.published ≤ 50000)
