use Rattle.std.proofs.Common.{[], ◌∷◌, ◌++◌, length, set, take, refl, ap, ◌∙◌, arith}
use Rattle.planner_ring.specs.Windows.{between}
use Rattle.planner_ring.proofs.Places.{room_of, between_push, refill_set}
use Rattle.planner_ring.proofs.Lent.{take_set}
use Rattle.planner_ring.proofs.ring.Ring.push.Goals as goal

pub returns-clause-room : goal.returns-clause-room
returns-clause-room g c =
    let r = c.self.inside in
    let room = room_of g.row.N r.tail r.free (take g.row.N r.slots.items) c.self.invariant.ring (λ e. c.if-next-self.false (c.after-next.ensures ∙ e)) in
    (λ _. omega (arith, room, ap length c.self.view_is), λ _. refl)

pub returns-clause-ok : goal.returns-clause-ok
returns-clause-ok g c =
    let r = c.self.inside in
    let room = room_of g.row.N r.tail r.free (take g.row.N r.slots.items) c.self.invariant.ring (λ e. c.if-next-self.false (c.after-next.ensures ∙ e)) in
    let h = c.self.invariant.ring in
    let whole = c.self.invariant.all in
    ap (λ xs. between g.row.N r.tail c.after-next.result (take g.row.N xs)) (refill_set r.slots.items c.as_mut_slice.result.now r.free c.args.b c.as_mut_slice.ensures.value)
    ∙ ap (between g.row.N r.tail c.after-next.result) (take_set g.row.N r.free r.slots.items c.args.b h.free (omega (arith, whole, h.few)))
    ∙ ap (λ f. between g.row.N r.tail f (set (take g.row.N r.slots.items) r.free c.args.b)) c.after-next.ensures
    ∙ between_push g.row.N r.tail r.free (take g.row.N r.slots.items) c.self.invariant.ring c.args.b room
    ∙ ap (λ bs. bs ++ c.args.b ∷ []) c.self.view_is
