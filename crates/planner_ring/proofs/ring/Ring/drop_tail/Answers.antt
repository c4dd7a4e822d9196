use Rattle.std.proofs.Common.{length, take, drop, ap, ◌∙◌, arith}
use Rattle.planner_ring.specs.Windows.{between}
use Rattle.planner_ring.proofs.Places.{between_drop}
use Rattle.planner_ring.proofs.ring.Ring.drop_tail.Goals as goal

pub returns : goal.returns
returns g c =
    let r = c.self.inside in
    let long = ap length c.self.view_is in
    ap (λ k. between g.row.N k r.free (take g.row.N r.slots.items)) c.after-next.ensures
    ∙ between_drop g.row.N r.tail r.free (take g.row.N r.slots.items) c.self.invariant.ring (omega (arith, long, c.requires))
    ∙ ap (λ bs. drop 1 bs) c.self.view_is
