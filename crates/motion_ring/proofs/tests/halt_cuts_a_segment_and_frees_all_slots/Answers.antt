use Rattle.std.proofs.Common.{◌≡◌, sym, subst, IfOk}
use Rattle.motion_ring.specs.Rule.{none_sent}
use Rattle.motion_ring.specs.Ends.{sent_by, known_by, done_loads_of, halt_loads_of}
use Rattle.motion_ring.specs.Sides.{MayPublish}
use Rattle.motion_ring.proofs.Tried.{may_begin}
use Rattle.motion_ring.proofs.tests.halt_cuts_a_segment_and_frees_all_slots.Goals as goal

pub publish-requires : goal.publish-requires
publish-requires g c =
    let fresh = subst (λ q. IfOk q (λ r. (sent_by r.0 ≡ none_sent) × (known_by r.0 ≡ 0) × (done_loads_of r.0 ≡ 0) × (halt_loads_of r.0 ≡ 0))) c.expect-out.ensures c.motion.ensures.fresh in
    subst (λ s. MayPublish s c.three_events-three.result) (sym fresh.0) (subst (λ p. MayPublish none_sent p) (sym c.three_events-three.ensures) may_begin)
