-- The making and the ending of the seats keep the rule.
use Rattle.std.proofs.Common.{◌≡◌, ℕ, zero, suc, ◌+◌, ◌-◌, ◌<◌, ◌≤◌, ◌⊎◌, Bool, true, false, List, [], ◌∷◌, ◌++◌, length, map, drop, replicate, set, None, sym, refl, ap, ◌∙◌, subst, inl, ⊎_elim, arith}
use Rattle.std.specs.declared.option.Option.{Option}
use mathlib.Core.Option.{none, some}
use lib.ListN.{get_elem?}
use Rattle.atomic_table.specs.Table.{step, Allows, Splits, Joins, opening}
use Rattle.atomic_table.specs.Table.Act.{keeps}
use Rattle.atomic_table.proofs.Lists.{at_set}
use Rattle.shared_rings.proofs.Rights as rights
use Rattle.step_line.specs.declared.Piece.{Piece}
use Rattle.step_line.specs.Ordering.{InTurn}
use Rattle.step_line.specs.Finishing.{ticks_together}
use Rattle.motion_ring.specs.declared.view.MotionSight.{MotionSight}
use Rattle.motion_ring.specs.declared.lists.Halt.{Halt}
use Rattle.motion_ring.specs.declared.lists.Sent.{Sent}
use Rattle.motion_ring.specs.declared.lists.Taken.{Taken}
use Rattle.motion_ring.specs.Ticks.{done_word, unfinished_of}
use Rattle.motion_ring.specs.Sides.{published_in, last_stop, all_passed, unless_none, some_halts, some_stops, pieces_at, halt_of}
use Rattle.motion_ring.specs.Rule.{Kept, Flows, IsGoing, PiecesAreTied, beginning, none_sent, none_taken, without_publishing, without_getting, both_of, spent, tied}
use Rattle.motion_ring.proofs.Ticks.{at_most_five}
use Rattle.motion_ring.proofs.Sides.{none_of}
use Rattle.motion_ring.proofs.Flows.{Homes, long, passed_long, going_late, empty_flows}
use Rattle.motion_ring.proofs.Frame.{Hand, may_publish, may_get, loads, own_publishing, own_getting, taken_asked, taken_words, taken_flows, gotten_by}

-- with one item more, or none, in front
front_of : {A : Type 0} (n : ℕ) (a : A) (l : List A) → (front : List A) × (unless_none n a l ≡ front ++ l)
front_of zero a l = ([], refl)
front_of (suc n) a l = (a ∷ [], refl)

-- what the two sides know of each other
module _ (homes : Homes) (sent : Sent) (taken : Taken) (finished : ℕ) (filling busy : Bool) (f : Flows homes sent taken [] finished filling busy) where
  few_going : IsGoing sent taken [] f.rest → unfinished_of (f.rest ++ taken.fresh) (taken.counted - all_passed taken.past) ≤ 5
  few_going g =
      let late = going_late homes sent taken [] finished filling busy f g in
      let base = g.base in
      let e = ap (λ (l : List Piece). ticks_together (drop 5 l)) g.since_is in
      at_most_five (f.rest ++ taken.fresh) (taken.counted - all_passed taken.past) (subst InTurn g.since_is f.turns) (omega arith)

  few_left : unfinished_of (f.rest ++ taken.fresh) (taken.counted - all_passed taken.past) ≤ 5
  few_left = ⊎_elim (λ r. few_going r.going) (λ o. ⊎_elim (λ s. few_going s.going)
      (λ h.
      let l = long homes sent taken [] finished filling busy f in
      let pl = passed_long homes sent taken [] finished filling busy f in
      let even = h.even in
      let at_head = h.at_head in
      let none_more : f.rest ≡ [] = none_of f.rest (omega arith) in
      let none : [] ≡ f.rest ++ taken.fresh = sym (λ i. none_more i ++ h.none_fresh i) in
      subst (λ (l : List Piece). unfinished_of l (taken.counted - all_passed taken.past) ≤ 5) none (at_most_five [] (taken.counted - all_passed taken.past) tt (omega arith))) o) f.phase

  unseen_halts : (unseen : List Halt) × (taken.halts ≡ unseen ++ some_halts sent.halts)
  unseen_halts = ⊎_elim (λ r. ([], sym r.going.loads)) (λ o. ⊎_elim (λ s. ([], sym s.going.loads))
      (λ h. let p = front_of (length (published_in sent)) (halt_of sent taken.counted) (some_halts sent.halts) in (p.0, sym h.loads ∙ p.1)) o) f.phase

  waiting_stops : (waiting : List ℕ) × (some_stops sent.stops ≡ waiting ++ map pieces_at taken.halts)
  waiting_stops = ⊎_elim (λ r. ([], r.asks)) (λ o. ⊎_elim (λ s. (last_stop sent.stops ∷ [], s.asks)) (λ h. ([], h.asks)) o) f.phase

  tied_ends : (known : ℕ) → known ≤ taken.counted → PiecesAreTied sent known taken
  tied_ends known le = record {
    rest = f.rest;
    pieces = f.fifo;
    cuts = f.cuts;
    marks = f.marks;
    done = taken.counted;
    done_is = refl;
    ticks = f.done;
    known_is = le;
    few = few_left;
    unseen = unseen_halts.0;
    halts = unseen_halts.1;
    waiting = waiting_stops.0;
    stops = waiting_stops.1;
  }

pub ties : (slots id : ℕ) (v : MotionSight) (c : Hand) → v.may_publish ≡ true → v.may_get ≡ true → Allows Kept slots id (v, c) done_word (λ n. n) (tied (step slots done_word 0 0 none) (v, c))
unfolding tied_ends
ties slots id v c publishing getting s k size at small =
    let p = own_publishing s k id v at publishing in
    let g = own_getting s k id v at getting in
    let f : Flows s.homes k.sent v.taken v.dropping k.finished_of k.filling v.busy = taken_flows s k id v at getting in
    let e = ap (λ t. t.counted) g.1.taken_is in
    let known = p.1.known_is in
    let done = (taken_words s k id v at getting).done in (
      v,
      keeps,
      tt,
      loads s done_word s.homes id v (gotten_by s k id v at v s.words s.homes k.finished_of getting refl refl refl refl (omega arith) (taken_asked s k id v at getting) (taken_words s k id v at getting) f),
      (
        refl,
        (λ none_dropped.
            let b : Flows s.homes v.sent v.taken [] k.finished_of k.filling v.busy =
            subst (λ (d : List Piece). Flows s.homes v.sent v.taken d k.finished_of k.filling v.busy) none_dropped
            (subst (λ (x : Sent). Flows s.homes x v.taken v.dropping k.finished_of k.filling v.busy) (sym p.1.sent_is) f) in
            (tied_ends s.homes v.sent v.taken k.finished_of k.filling v.busy b v.known (omega arith), sym done)),
      ),
    )

abbrev no_piece : Option Piece
no_piece = None

pub starts : Kept (opening (replicate 66 0) (replicate 6 no_piece) beginning)
starts = record {
  sent = none_sent;
  taken = none_taken;
  dropping = [];
  finished_of = 0;
  filling = false;
  busy = false;
  publisher = 0;
  getter = 0;
  words_are = record { wide = refl; head = refl; done = refl; stop = refl; halted = refl };
  flows = empty_flows;
  publishing = rights.starts may_publish _ beginning (record { sent_is = refl; filling_is = refl; known_is = omega arith });
  getting = rights.starts may_get _ beginning (record { taken_is = refl; dropping_is = refl; busy_is = refl; asked_is = inl (omega arith) });
}

pub splits : (id : ℕ) (v : MotionSight) → v.may_publish ≡ true → v.may_get ≡ true → Splits Kept id v (without_publishing v) (without_getting v)
splits id v publishing getting s k at =
    let p = k.publishing id v at publishing in
    let g = k.getting id v at getting in record {
      sent = k.sent;
      taken = k.taken;
      dropping = k.dropping;
      finished_of = k.finished_of;
      filling = k.filling;
      busy = k.busy;
      publisher = length (set s.views id (without_publishing v));
      getter = k.getter;
      words_are = k.words_are;
      flows = k.flows;
      publishing = rights.splits_right may_publish s.views k.publisher _ id (without_publishing v) (without_getting v) k.publishing p.0 refl
          (record { sent_is = p.1.sent_is; filling_is = p.1.filling_is; known_is = p.1.known_is });
      getting = rights.splits_left may_get s.views k.getter _ id (without_publishing v) (without_getting v) k.getting g.0
          (record { taken_is = g.1.taken_is; dropping_is = g.1.dropping_is; busy_is = g.1.busy_is; asked_is = g.1.asked_is }) refl;
    }

pub joins : (id other : ℕ) (v w : MotionSight) → v.may_get ≡ true → w.may_publish ≡ true → Joins Kept id v other w (both_of v w) spent
joins id other v w getting publishing s k at apart at_other =
    let was : get_elem? s.views other ≡ some w = ⊎_elim (λ a. absurd (apart a.0)) (λ a. a.1) (at_set s.views id other (both_of v w) w at_other) in
    let p = k.publishing other w was publishing in
    let g = k.getting id v at getting in record {
      sent = k.sent;
      taken = k.taken;
      dropping = k.dropping;
      finished_of = k.finished_of;
      filling = k.filling;
      busy = k.busy;
      publisher = id;
      getter = k.getter;
      words_are = k.words_are;
      flows = k.flows;
      publishing = rights.joins_right may_publish s.views k.publisher _ id other (both_of v w) spent k.publishing p.0
          (record { sent_is = p.1.sent_is; filling_is = p.1.filling_is; known_is = p.1.known_is }) refl;
      getting = rights.joins_left may_get s.views k.getter _ id other (both_of v w) spent k.getting g.0
          (record { taken_is = g.1.taken_is; dropping_is = g.1.dropping_is; busy_is = g.1.busy_is; asked_is = g.1.asked_is }) refl;
    }

-- who has a tick left has a slot out
pub working : (busy : Bool) (left : ℕ) → 0 < left → (busy ≡ false → left ≡ 0) → busy ≡ true
working true left some_left idle = refl
working false left some_left idle = absurd (let i = idle refl in omega arith)
