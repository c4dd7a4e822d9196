use Rattle.std.proofs.Common.{◌≡◌, ◌≢◌, ◌⊎◌, inl, inr, subst}
use Rattle.std.proofs.lemmas.Bool.{cases_eq}
use Rattle.std.specs.Slice.{IsItemAt}
use Rattle.planner_ring.proofs.Lent.{read_where}
use Rattle.planner_ring.proofs.ring.Ring.tail.Goals as goal

pub returns-clause-some : goal.returns-clause-some
returns-clause-some g c =
    let r = c.self.inside in
    let first = c.first_place-first.result in
    let is = c.first_place-first.ensures in
    let asked : ((r.tail ≡ r.free) × (first ≡ 64)) ⊎ ((r.tail ≢ r.free) × (first ≡ r.tail)) =
    elim (cases_eq r.tail r.free) [ inl same ↦ inl (same, is.none same) | inr apart ↦ inr (apart, is.some apart) ] in
    read_where g.row.N r.tail r.free first r.slots.items c.args.self.now c.self.invariant c.self.view_is asked c.get.result
    (subst (λ xs. IsItemAt xs first c.get.result) c.as_slice.ensures.value c.get.ensures.lookup)
