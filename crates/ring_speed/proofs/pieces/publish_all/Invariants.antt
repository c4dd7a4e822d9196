use Rattle.motion_ring.specs.Ends.{sent_by}
use Rattle.ring_speed.proofs.Sending.{HasSent}
use Rattle.ring_speed.proofs.pieces.publish_all.Given as goal

abbrev pub invariant-loop : goal.invariant-loop
invariant-loop g l = HasSent (sent_by l.out) l.published
