-- The steps of the seat that gets keep the rule.
use Rattle.std.proofs.Common.{◌≡◌, ℕ, zero, suc, ◌+◌, ◌-◌, ◌%◌, ◌^◌, ◌<◌, ◌≤◌, ◌⊎◌, Bool, true, false, List, [], ◌∷◌, ◌++◌, length, get_or, set, Some, None, sym, refl, ap, ◌∙◌, subst, inl, inr, ⊎_elim, arith, lt_of_not-le}
use Rattle.std.specs.declared.option.Option.{Option}
use Rattle.units.specs.Truths.{one_if}
use mathlib.Core.Option.{none, some}
use native.Mathlib.Decide.{dec_le}
use lib.ListN.{get_elem?}
use Rattle.atomic_table.specs.Table.{State, step, Act, Allows, Valid, carried_after, homes_after}
use Rattle.atomic_table.specs.Table.Act.{keeps, takes, gives, chain}
use Rattle.shared_rings.proofs.Shelf as shelves
use Rattle.step_line.specs.declared.Piece.{Piece}
use Rattle.motion_ring.specs.declared.view.MotionSight.{MotionSight}
use Rattle.motion_ring.specs.Ticks.{head_word, done_word, stop_word, halted_word}
use Rattle.motion_ring.specs.Sides.{published_in, passed_in, last_stop, with_got, with_tick, halted_with}
use Rattle.motion_ring.specs.Rule.{Kept, Flows, IsStopping, saw_head, got_piece, counted_tick, counted_last, saw_stop, skipped_piece, gave_halt, empty_slots, grasped, ticked, finished, asked, recalled, skipped, halted}
use Rattle.motion_ring.proofs.Words.{done_stored, halt_stored}
use Rattle.motion_ring.proofs.Flows.{Homes, long, next, there, comes, none_ended, next_idle, next_short, grasped_flows, ticked_flows, finished_flows, given, skipped_there, skipped_flows, past_is, halted_flows}
use Rattle.motion_ring.proofs.Flows as flowing
use Rattle.motion_ring.proofs.Frame.{Hand, Way, loads, own_getting, taken_flows, taken_words, taken_asked, gotten_by}

module _ (s : State (Option Piece) MotionSight) (k : Kept s) (id : ℕ) (v : MotionSight) (at : get_elem? s.views id ≡ some v) (mine : v.may_get ≡ true) where
  abbrev flows : Flows s.homes k.sent v.taken v.dropping k.finished_of k.filling v.busy
  flows = taken_flows s k id v at mine

  head_is : get_or s.words head_word 0 ≡ length (published_in k.sent)
  head_is = (taken_words s k id v at mine).head

  counted_is : k.taken.counted ≤ v.taken.counted
  counted_is = let g = own_getting s k id v at mine in let e = ap (λ t. t.counted) g.1.taken_is in omega arith

  within : length v.dropping + length (passed_in v.taken) ≤ length (published_in k.sent)
  within = let l = long s.homes k.sent v.taken v.dropping k.finished_of k.filling v.busy flows in omega arith

  -- a stop that was seen and not halted stands
  stopping : length v.taken.past < v.asked → (IsStopping k.sent v.taken v.dropping flows.rest) × (v.asked ≡ last_stop k.sent.stops)
  stopping above =
      let stands : v.asked ≡ last_stop k.sent.stops = ⊎_elim (λ le. absurd (omega arith)) (λ e. e) (taken_asked s k id v at mine) in
      (⊎_elim (λ r. absurd (let e = r.even in omega arith)) (λ o. ⊎_elim (λ t. t) (λ h. absurd (let e = h.even in omega arith)) o) flows.phase, stands)

  stop_above : length v.taken.past ≤ last_stop k.sent.stops
  stop_above = ⊎_elim (λ r. let e = r.even in omega arith) (λ o. ⊎_elim (λ t. let a = t.above in omega arith) (λ h. let e = h.even in omega arith) o) flows.phase

pub grasps : (slots id : ℕ) (v : MotionSight) (c : Hand) → v.may_get ≡ true → v.dropping ≡ [] → v.taken.left ≡ 0 → Allows Kept slots id (v, c) head_word (λ n. n) (grasped (step slots head_word 0 0 none) (v, c))
grasps slots id v c mine none_dropped none_left s k size at small = go (dec_le n (length (passed_in v.taken)))
  where
    n : ℕ
    n = get_or s.words head_word 0

    f : Flows s.homes k.sent v.taken [] k.finished_of k.filling v.busy
    f = subst (λ (d : List Piece). Flows s.homes k.sent v.taken d k.finished_of k.filling v.busy) none_dropped (taken_flows s k id v at mine)

    head : n ≡ length (published_in k.sent)
    head = head_is s k id v at mine

    among : length (passed_in v.taken) ≤ n
    among = let w = within s k id v at mine in let h = head in omega arith

    short : n < 2 ^ 63
    short = let h = head in let c = f.count in omega arith

    go : Dec (n ≤ length (passed_in v.taken)) → Way s id c head_word n (grasped (step slots head_word 0 0 none) (v, c))
    go (yes d) = (
      saw_head v n,
      keeps,
      tt,
      loads s head_word s.homes id (saw_head v n) (gotten_by s k id v at (saw_head v n) s.words s.homes k.finished_of mine refl refl refl refl (counted_is s k id v at mine) (taken_asked s k id v at mine)
          (taken_words s k id v at mine) (taken_flows s k id v at mine)),
      (among, short, (λ lt. absurd (omega arith)), (λ le. refl)),
    )
    go (no d) =
        let h = head in
        let more : length (passed_in v.taken) < length (published_in k.sent) = (let lt : length (passed_in v.taken) < n = lt_of_not-le d in omega arith) in
        let p : Piece = next s.homes k.sent v.taken k.finished_of k.filling v.busy f none_left more in
        let t = there s.homes k.sent v.taken k.finished_of k.filling v.busy f none_left more in
        let w : MotionSight = got_piece v n p in
        let i : ℕ = length (passed_in v.taken) % 6 in
        let are = taken_words s k id v at mine in
        let moved = subst (λ (d : List Piece). Flows (set s.homes i none) k.sent (with_got v.taken p) d k.finished_of k.filling true) (sym none_dropped)
        (grasped_flows s.homes k.sent v.taken k.finished_of k.filling v.busy f none_left more) in (
          w,
          takes i (Some p),
          shelves.grasp_home 6 s.homes (published_in k.sent) (passed_in v.taken) k.finished_of k.filling p f.shelf t,
          loads s head_word (set s.homes i none) id w (gotten_by s k id v at w s.words (set s.homes i none) k.finished_of mine refl refl refl refl (counted_is s k id v at mine) (taken_asked s k id v at mine)
              (record { wide = are.wide; head = are.head; done = are.done; stop = are.stop; halted = are.halted }) moved),
          (
            among,
            short,
            (λ x. (
              p,
              refl,
              comes s.homes k.sent v.taken k.finished_of k.filling v.busy f none_left more,
              none_ended s.homes k.sent v.taken k.finished_of k.filling v.busy f none_left more,
              next_idle s.homes k.sent v.taken k.finished_of k.filling v.busy f none_left more,
              next_short s.homes k.sent v.taken k.finished_of k.filling v.busy f none_left more,
            )),
            (λ le. absurd (d le)),
          ),
        )

pub ticks : (slots id new : ℕ) (v : MotionSight) (c : Hand) → v.may_get ≡ true → 1 < v.taken.left → new ≡ v.taken.counted + 1
    → Allows Kept slots id (v, c) done_word (λ _. new) (λ _. ticked (step slots done_word new 0 none) (v, c) new)
ticks slots id new v c mine more count s k size at small = (
  counted_tick v,
  keeps,
  tt,
  gotten_by s k id v at (counted_tick v) (set s.words done_word new) s.homes k.finished_of mine refl refl refl refl (let e = counted_is s k id v at mine in omega arith) (taken_asked s k id v at mine)
      (done_stored s.words k.sent v.taken (taken_words s k id v at mine) new (with_tick v.taken) count refl)
      (ticked_flows s.homes k.sent v.taken v.dropping k.finished_of k.filling v.busy (taken_flows s k id v at mine) more),
  refl,
)

pub finishes : (slots id new i : ℕ) (v : MotionSight) → v.may_get ≡ true → v.busy ≡ true → v.taken.left ≡ 1 → i ≡ (length (passed_in v.taken) - 1) % 6 → new ≡ v.taken.counted + 1
    → Allows Kept slots id (v, (i, None) ∷ []) done_word (λ _. new) (λ _. finished (step slots done_word new 0 none) (v, (i, None) ∷ []) new)
finishes slots id new i v mine out last place count s k size at small =
    let f : Flows s.homes k.sent v.taken v.dropping k.finished_of k.filling v.busy = taken_flows s k id v at mine in
    let b : Flows s.homes k.sent v.taken v.dropping k.finished_of k.filling true = subst (λ b. Flows s.homes k.sent v.taken v.dropping k.finished_of k.filling b) out f in
    let held : length (passed_in v.taken) ≡ k.finished_of + 1 = b.held in
    let first : k.finished_of ≡ length (passed_in v.taken) - 1 = omega arith in
    let here : k.finished_of % 6 ≡ i = ap (λ z. z % 6) first ∙ sym place in
    let moved = subst (λ j. Flows (set s.homes j (some None)) k.sent (with_tick v.taken) v.dropping (k.finished_of + 1) k.filling false) here
    (finished_flows s.homes k.sent v.taken v.dropping k.finished_of k.filling v.busy f out last b) in (
      counted_last v,
      gives,
      tt,
      gotten_by s k id v at (counted_last v) (set s.words done_word new) (set s.homes i (some None)) (k.finished_of + 1) mine refl refl refl refl (let e = counted_is s k id v at mine in omega arith) (taken_asked s k id v at mine)
          (done_stored s.words k.sent v.taken (taken_words s k id v at mine) new (with_tick v.taken) count refl) moved,
      refl,
    )

pub asks : (slots id : ℕ) (v : MotionSight) (c : Hand) → v.may_get ≡ true → Allows Kept slots id (v, c) stop_word (λ n. n) (asked (step slots stop_word 0 0 none) (v, c))
asks slots id v c mine s k size at small =
    let n : ℕ = get_or s.words stop_word 0 in
    let are = taken_words s k id v at mine in
    let e : n ≡ last_stop k.sent.stops = are.stop in
    let above = stop_above s k id v at mine in (
      saw_stop v n,
      keeps,
      tt,
      loads s stop_word s.homes id (saw_stop v n) (gotten_by s k id v at (saw_stop v n) s.words s.homes k.finished_of mine refl refl refl refl (counted_is s k id v at mine) (inr e) are (taken_flows s k id v at mine)),
      (refl, omega arith),
    )

pub recalls : (slots id : ℕ) (v : MotionSight) (c : Hand) → v.may_get ≡ true → length v.taken.past < v.asked → Allows Kept slots id (v, c) stop_word (λ n. n) (recalled (step slots stop_word 0 0 none) (v, c))
recalls slots id v c mine above s k size at small =
    let n : ℕ = get_or s.words stop_word 0 in
    let are = taken_words s k id v at mine in
    let e : n ≡ last_stop k.sent.stops = are.stop in
    let t = stopping s k id v at mine above in
    let f : Flows s.homes k.sent v.taken v.dropping k.finished_of k.filling v.busy = taken_flows s k id v at mine in
    let h = t.0.at_head in
    let w = within s k id v at mine in
    let c = f.count in (
      v,
      keeps,
      tt,
      loads s stop_word s.homes id v (gotten_by s k id v at v s.words s.homes k.finished_of mine refl refl refl refl (counted_is s k id v at mine) (taken_asked s k id v at mine) are f),
      (refl, e ∙ sym t.1, omega arith, omega arith),
    )

pub skips : (slots id : ℕ) (v : MotionSight) (c : Hand) → v.may_get ≡ true → length v.taken.past < v.asked → length (v.dropping ++ passed_in v.taken) < v.asked
    → Allows Kept slots id (v, c) stop_word (λ n. n) (skipped (step slots stop_word 0 0 none) (v, c))
skips slots id v c mine above below s k size at small =
    let f : Flows s.homes k.sent v.taken v.dropping k.finished_of k.filling v.busy = taken_flows s k id v at mine in
    let t = stopping s k id v at mine above in
    let h = t.0.at_head in
    let more : length (v.dropping ++ passed_in v.taken) < length (published_in k.sent) = omega arith in
    let p : Piece = flowing.skipped s.homes k.sent v.taken v.dropping k.finished_of k.filling v.busy f t.0 more in
    let i : ℕ = length (v.dropping ++ passed_in v.taken) % 6 in
    let w : MotionSight = skipped_piece v p in (
      w,
      takes i (Some p),
      shelves.grasp_home 6 s.homes (published_in k.sent) (v.dropping ++ passed_in v.taken) k.finished_of k.filling p f.shelf (skipped_there s.homes k.sent v.taken v.dropping k.finished_of k.filling v.busy f t.0 more),
      loads s stop_word (set s.homes i none) id w (gotten_by s k id v at w s.words (set s.homes i none) k.finished_of mine refl refl refl refl (counted_is s k id v at mine) (taken_asked s k id v at mine)
          (taken_words s k id v at mine) (skipped_flows s.homes k.sent v.taken v.dropping k.finished_of k.filling v.busy f t.0 more)),
      (p, refl),
    )

-- all slots that are out come back, the first first
abbrev give_all : ℕ → Act (Option Piece)
give_all zero = keeps
give_all (suc n) = chain gives (give_all n)

valid_all : (n first : ℕ) (homes : Homes) → Valid homes (empty_slots first n) (give_all n)
valid_all zero first homes = tt
valid_all (suc n) first homes = (tt, valid_all n (first + 1) (set homes (first % 6) (some None)))

carried_all : (n first : ℕ) → carried_after (empty_slots first n) (give_all n) ≡ []
carried_all zero first = refl
carried_all (suc n) first = carried_all n (first + 1)

homes_all : (n first : ℕ) (homes : Homes) → homes_after homes (empty_slots first n) (give_all n) ≡ given homes first n
homes_all zero first homes = refl
homes_all (suc n) first homes = homes_all n (first + 1) (set homes (first % 6) (some None))

pub halts : (slots id new first n : ℕ) (v : MotionSight) → v.may_get ≡ true → length v.taken.past < v.asked → new ≡ v.asked → length (v.dropping ++ passed_in v.taken) ≡ v.asked
    → length (passed_in v.taken) ≡ first + one_if v.busy → n ≡ one_if v.busy + length v.dropping
    → Allows Kept slots id (v, empty_slots first n) halted_word (λ _. new) (λ _. halted (step slots halted_word new 0 none) (v, empty_slots first n) new)
halts slots id new first n v mine above count whole held out s k size at small =
    let f : Flows s.homes k.sent v.taken v.dropping k.finished_of k.filling v.busy = taken_flows s k id v at mine in
    let t = stopping s k id v at mine above in
    let h = t.0.at_head in
    let all : length (v.dropping ++ passed_in v.taken) ≡ length (published_in k.sent) = omega arith in
    let fh = f.held in
    let e : k.finished_of ≡ first = omega arith in
    let w : MotionSight = gave_halt v in
    let past = past_is s.homes k.sent v.taken v.dropping k.finished_of k.filling v.busy f t.0 all in
    let moved : Flows (given s.homes k.finished_of (one_if v.busy + length v.dropping)) k.sent w.taken [] (k.finished_of + (one_if v.busy + length v.dropping)) k.filling false = halted_flows s.homes k.sent v.taken v.dropping k.finished_of k.filling v.busy f t.0 all in
    let homes : given s.homes k.finished_of (one_if v.busy + length v.dropping) ≡ homes_after s.homes (empty_slots first n) (give_all n) = (λ i. given s.homes (e i) (sym out i)) ∙ sym (homes_all n first s.homes) in (
      w,
      give_all n,
      valid_all n first s.homes,
      gotten_by s k id v at w (set s.words halted_word new) (homes_after s.homes (empty_slots first n) (give_all n)) (k.finished_of + (one_if v.busy + length v.dropping)) mine refl refl refl refl (counted_is s k id v at mine)
          (inl (omega arith))
          (halt_stored s.words k.sent v.taken (taken_words s k id v at mine) new (halted_with v.taken v.dropping) (omega arith) refl)
          (subst (λ (x : Homes). Flows x k.sent w.taken [] (k.finished_of + (one_if v.busy + length v.dropping)) k.filling false) homes moved),
      ap (λ (x : Hand). (w, x)) (carried_all n first),
    )

-- one slot more behind those that are out
pub slots_next : (n first i : ℕ) → i ≡ (first + n) % 6 → empty_slots first n ++ (i, None) ∷ [] ≡ empty_slots first (suc n)
slots_next zero first i at = λ j. ((at ∙ ap (λ z. z % 6) (let e : first + 0 ≡ first = omega arith in e)) j, None) ∷ []
slots_next (suc n) first i at = ap (λ (l : Hand). (first % 6, None) ∷ l) (slots_next n (first + 1) i (at ∙ ap (λ z. z % 6) (let e : first + suc n ≡ first + 1 + n = omega arith in e)))

-- what a seat holds while the last piece is unfinished or not
pub hand_of : (busy : Bool) (got : ℕ) (hand : Hand) → (busy ≡ false → hand ≡ []) → (busy ≡ true → hand ≡ ((got - 1) % 6, None) ∷ []) → hand ≡ empty_slots (got - one_if busy) (one_if busy)
hand_of false got hand idle at_work = idle refl
hand_of true got hand idle at_work = at_work refl

pub held_of : (busy : Bool) (got : ℕ) → (busy ≡ true → 0 < got) → one_if busy ≤ got
held_of false got more = omega arith
held_of true got more = let s = more refl in omega arith
