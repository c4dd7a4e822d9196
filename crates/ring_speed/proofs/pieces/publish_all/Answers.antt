use Rattle.std.proofs.Common.{◌≡◌, ◌+◌, sym, subst, arith}
use Rattle.step_line.specs.declared.Piece.{Piece}
use Rattle.motion_ring.specs.Ends.{sent_by}
use Rattle.motion_ring.specs.Sides.{MayPublish}
use Rattle.ring_speed.proofs.Sending.{may_publish}
use Rattle.ring_speed.proofs.pieces.publish_all.Goals as goal

pub publish-requires : goal.publish-requires
publish-requires g c =
    subst (λ (p : Piece). MayPublish (sent_by c.loop.out) p) (sym c.twenty_events-piece.ensures) (may_publish (sent_by c.loop.out) c.loop.published c.loop.invariant (omega arith))
