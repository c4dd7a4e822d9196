use Rattle.std.proofs.Common.{◌≡◌, ◌≢◌, ◌⊎◌, inl, inr}
use Rattle.std.proofs.lemmas.Bool.{cases_eq}
use Rattle.planner_ring.proofs.Lent.{lent_back, none_where, some_where}
use Rattle.planner_ring.proofs.ring.Ring.tail_mut.Goals as goal

pub returns : goal.returns
returns g c =
    let r = c.self.inside in
    let place = c.first_place-place.result in
    let is = c.first_place-place.ensures in
    let asked : ((r.tail ≡ r.free) × (place ≡ 64)) ⊎ ((r.tail ≢ r.free) × (place ≡ r.tail)) =
    elim (cases_eq r.tail r.free) [ inl same ↦ inl (same, is.none same) | inr apart ↦ inr (apart, is.some apart) ] in (
      lent_back g.row.N r.tail r.free place r.slots.items c.args.self.now c.self.invariant c.self.view_is asked c.get_mut.result c.get_mut.ensures.variant,
      record {
        writes_back = tt;
        none = none_where g.row.N r.tail r.free place r.slots.items c.args.self.now c.self.invariant c.self.view_is asked c.get_mut.result c.get_mut.ensures.variant;
        some = some_where g.row.N r.tail r.free place r.slots.items c.args.self.now c.self.invariant c.self.view_is asked c.get_mut.result c.get_mut.ensures.variant c.get_mut.ensures.value;
      },
    )
