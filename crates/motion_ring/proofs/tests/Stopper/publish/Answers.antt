use Rattle.std.proofs.Common.{◌≡◌, ◌∙◌, sym, subst, arith}
use Rattle.step_line.specs.declared.Piece.{Piece}
use Rattle.motion_ring.specs.Ends.{sent_by}
use Rattle.motion_ring.specs.Sides.{MayPublish}
use Rattle.motion_ring.proofs.Tried.{may_go_on}
use Rattle.motion_ring.proofs.tests.Stopper.publish.Goals as goal

pub publish-requires : goal.publish-requires
publish-requires c =
    let s = c.args.self.now in
    let few = s.few.1 in
    let ticks = s.ticks in
    let pieces = s.pieces.0 in
    subst (λ (p : Piece). MayPublish (sent_by s.out) p) (sym c.three_events.ensures)
    (may_go_on (sent_by s.out) (s.open.0 ∙ c.requires.0) s.open.1 (omega (arith, ticks, few)) (omega (arith, pieces, few)))
