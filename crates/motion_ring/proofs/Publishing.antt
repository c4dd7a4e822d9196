-- The steps of the seat that publishes keep the rule.
use Rattle.std.proofs.Common.{◌≡◌, ℕ, ◌+◌, ◌%◌, ◌<◌, ◌≤◌, ◌⊎◌, true, false, [], ◌∷◌, ◌++◌, length, get_or, set, Some, None, sym, refl, ap, ◌∙◌, subst, inl, ⊎_elim, arith}
use Rattle.std.specs.declared.option.Option.{Option}
use mathlib.Core.Option.{none, some}
use native.Mathlib.Decide.{dec_le}
use lib.ListN.{get_elem?}
use Rattle.atomic_table.specs.Table.{State, step, Allows}
use Rattle.atomic_table.specs.Table.Act.{keeps, takes, gives}
use Rattle.shared_rings.specs.Shelf.{Shelf}
use Rattle.shared_rings.proofs.Shelf as shelves
use Rattle.step_line.specs.declared.Piece.{Piece}
use Rattle.step_line.specs.Ordering.{has_ended}
use Rattle.motion_ring.specs.declared.view.MotionSight.{MotionSight}
use Rattle.motion_ring.specs.declared.lists.Sent.{Sent}
use Rattle.motion_ring.specs.Ticks.{head_word, done_word, stop_word, halted_word}
use Rattle.motion_ring.specs.Sides.{published_in, passed_in, last_stop, room_from, MayPublish, MayStop}
use Rattle.motion_ring.specs.Rule.{Kept, Flows, IsKnown, IsRunning, IsHalted, saw_slot, saw_done, gave_piece, gave_stop, saw_no_halt, saw_halt, reached, seen, published, stopped, heeded}
use Rattle.motion_ring.proofs.Words.{head_stored, stop_stored}
use Rattle.motion_ring.proofs.Flows.{done_within, done_late, has_room, reached_flows, published_flows, stopped_flows, heeded_flows}
use Rattle.motion_ring.proofs.Frame.{Hand, Way, after, loads, own_publishing, sent_flows, sent_words, published_by}

module _ (s : State (Option Piece) MotionSight) (k : Kept s) (id : ℕ) (v : MotionSight) (at : get_elem? s.views id ≡ some v) (mine : v.may_publish ≡ true) where
  abbrev flows : Flows s.homes v.sent k.taken k.dropping k.finished_of v.filling k.busy
  flows = sent_flows s k id v at mine

  asks_same : (a : ℕ) → (a ≤ length k.taken.past) ⊎ (a ≡ last_stop k.sent.stops) → (a ≤ length k.taken.past) ⊎ (a ≡ last_stop v.sent.stops)
  asks_same a old = let p = own_publishing s k id v at mine in subst (λ (x : Sent). (a ≤ length k.taken.past) ⊎ (a ≡ last_stop x.stops)) (sym p.1.sent_is) old

  running : v.sent.waits ≡ false → IsRunning v.sent k.taken k.dropping flows.rest
  running none_waits = ⊎_elim (λ r. r) (λ o. absurd (⊎_elim (λ t. let e : true ≡ false = sym t.one_waits ∙ none_waits in cc) (λ t. let e : true ≡ false = sym t.one_waits ∙ none_waits in cc) o)) flows.phase

  -- what a load of the done count tells
  known : IsKnown v k.taken.counted
  known = let p = own_publishing s k id v at mine in record {
    no_fewer = p.1.known_is;
    no_more = done_within s.homes v.sent k.taken k.dropping k.finished_of v.filling k.busy flows;
    late = done_late s.homes v.sent k.taken k.dropping k.finished_of v.filling k.busy flows;
    turns = flows.turns;
  }

  count : get_or s.words done_word 0 ≡ k.taken.counted
  count = (sent_words s k id v at mine).done

  known_here : IsKnown v (get_or s.words done_word 0)
  known_here = subst (IsKnown v) (sym count) known

  sees_known : Kept (after (set s.words done_word (get_or s.words done_word 0)) s.homes s.views id (saw_done v (get_or s.words done_word 0)))
  sees_known =
      let n : ℕ = get_or s.words done_word 0 in
      let e = count in
      loads s done_word s.homes id (saw_done v n) (published_by s k id v at (saw_done v n) s.words s.homes v.filling mine refl refl refl refl refl asks_same (sent_words s k id v at mine) flows
      (record { sent_is = refl; filling_is = refl; known_is = omega arith }))

pub sees : (slots id : ℕ) (v : MotionSight) (c : Hand) → v.may_publish ≡ true → Allows Kept slots id (v, c) done_word (λ n. n) (seen (step slots done_word 0 0 none) (v, c))
sees slots id v c mine s k size at small = (saw_done v (get_or s.words done_word 0), keeps, tt, sees_known s k id v at mine, (known_here s k id v at mine, refl))

pub reaches : (slots id : ℕ) (v : MotionSight) (c : Hand) → v.may_publish ≡ true → v.filling ≡ false → v.sent.waits ≡ false → has_ended (published_in v.sent) ≡ false
    → Allows Kept slots id (v, c) done_word (λ n. n) (reached (step slots done_word 0 0 none) (v, c))
reaches slots id v c mine idle none_waits going s k size at small = go (dec_le (room_from v.sent) (get_or s.words done_word 0))
  where
    n : ℕ
    n = get_or s.words done_word 0

    i : ℕ
    i = length (published_in v.sent) % 6

    go : Dec (room_from v.sent ≤ n) → Way s id c done_word n (reached (step slots done_word 0 0 none) (v, c))
    go (no d) = (saw_done v n, keeps, tt, sees_known s k id v at mine, (known_here s k id v at mine, (λ le. absurd (d le)), (λ lt. refl)))
    go (yes d) =
        let f : Flows s.homes v.sent k.taken k.dropping k.finished_of v.filling k.busy = sent_flows s k id v at mine in
        let e = count s k id v at mine in
        let room : length (published_in v.sent) < k.finished_of + 5 = has_room s.homes v.sent k.taken k.dropping k.finished_of v.filling k.busy f (running s k id v at mine none_waits) going (omega arith) in
        let shelf = subst (λ b. Shelf 6 s.homes (published_in v.sent) (k.dropping ++ passed_in k.taken) k.finished_of b) idle f.shelf in
        let at_slot : get_elem? s.homes i ≡ some (some None) = shelves.reach_home 6 s.homes (published_in v.sent) (k.dropping ++ passed_in k.taken) k.finished_of shelf (omega arith) in (
          saw_slot v n,
          takes i None,
          at_slot,
          loads s done_word (set s.homes i none) id (saw_slot v n) (published_by s k id v at (saw_slot v n) s.words (set s.homes i none) true mine refl refl refl refl refl (asks_same s k id v at mine) (sent_words s k id v at mine)
              (reached_flows s.homes v.sent k.taken k.dropping k.finished_of v.filling k.busy f idle room)
              (record { sent_is = refl; filling_is = refl; known_is = omega arith })),
          (known_here s k id v at mine, (λ le. refl), (λ lt. absurd (omega arith))),
        )

pub publishes : (slots id new : ℕ) (v : MotionSight) (i : ℕ) (p : Piece) → v.may_publish ≡ true → v.filling ≡ true → i ≡ length (published_in v.sent) % 6 → MayPublish v.sent p → new ≡ length (published_in v.sent) + 1
    → Allows Kept slots id (v, (i, Some p) ∷ []) head_word (λ _. new) (λ _. published (step slots head_word new 0 none) (v, (i, Some p) ∷ []) new)
publishes slots id new v i p mine out place may count s k size at small =
    let f : Flows s.homes v.sent k.taken k.dropping k.finished_of v.filling k.busy = sent_flows s k id v at mine in
    let known = own_publishing s k id v at mine in
    let there = subst (λ j. Flows (set s.homes j (some (Some p))) (gave_piece v p).sent k.taken k.dropping k.finished_of false k.busy) (sym place)
    (published_flows s.homes v.sent k.taken k.dropping k.finished_of v.filling k.busy f out (running s k id v at mine may.running) p may) in (
      gave_piece v p,
      gives,
      tt,
      published_by s k id v at (gave_piece v p) (set s.words head_word new) (set s.homes i (some (Some p))) false mine refl refl refl refl refl (asks_same s k id v at mine)
          (head_stored s.words v.sent k.taken (sent_words s k id v at mine) new (gave_piece v p).sent (omega arith) refl) there
          (record { sent_is = refl; filling_is = refl; known_is = known.1.known_is }),
      λ m q z. let pair : (i, Some p) ≡ (m, Some q) = cc in let both : Some p ≡ Some q = ap (λ (x : ℕ × Option Piece). x.1) pair in let pq : p ≡ q = cc in ap (λ (x : Piece). (gave_piece v x, [])) pq,
    )

pub stops : (slots id new : ℕ) (v : MotionSight) (c : Hand) → v.may_publish ≡ true → MayStop v.sent → new ≡ length (published_in v.sent)
    → Allows Kept slots id (v, c) stop_word (λ _. new) (λ _. stopped (step slots stop_word new 0 none) (v, c) new)
stops slots id new v c mine may count s k size at small =
    let f : Flows s.homes v.sent k.taken k.dropping k.finished_of v.filling k.busy = sent_flows s k id v at mine in
    let known = own_publishing s k id v at mine in
    let r = running s k id v at mine may.running in (
      gave_stop v,
      keeps,
      tt,
      published_by s k id v at (gave_stop v) (set s.words stop_word new) s.homes v.filling mine refl refl refl refl refl
          (λ a old. inl (⊎_elim (λ le. le) (λ e. let even = r.even in let same = ap last_stop (ap (λ (x : Sent). x.stops) known.1.sent_is) in omega arith) old))
          (stop_stored s.words v.sent k.taken (sent_words s k id v at mine) new (gave_stop v).sent count refl)
          (stopped_flows s.homes v.sent k.taken k.dropping k.finished_of v.filling k.busy f r may)
          (record { sent_is = refl; filling_is = refl; known_is = known.1.known_is }),
      refl,
    )

pub heeds : (slots id : ℕ) (v : MotionSight) (c : Hand) → v.may_publish ≡ true → v.sent.waits ≡ true
    → Allows Kept slots id (v, c) halted_word (λ n. n) (heeded (step slots halted_word 0 0 none) (v, c))
heeds slots id v c mine waits s k size at small = go (dec_le (length (published_in v.sent)) n)
  where
    n : ℕ
    n = get_or s.words halted_word 0

    f : Flows s.homes v.sent k.taken k.dropping k.finished_of v.filling k.busy
    f = sent_flows s k id v at mine

    behind : n ≡ length k.taken.past
    behind = (sent_words s k id v at mine).halted

    there : length (published_in v.sent) ≤ n → IsHalted v.sent k.taken k.dropping
    there le = ⊎_elim
        (λ r. absurd (let e : true ≡ false = sym waits ∙ r.none_waits in cc))
        (λ o. ⊎_elim (λ t. absurd (let a = t.above in let h = t.at_head in let b = behind in omega arith)) (λ h. h) o) f.phase

    go : Dec (length (published_in v.sent) ≤ n) → Way s id c halted_word n (heeded (step slots halted_word 0 0 none) (v, c))
    go (no d) =
        let p = own_publishing s k id v at mine in (
          saw_no_halt v n,
          keeps,
          tt,
          loads s halted_word s.homes id (saw_no_halt v n) (published_by s k id v at (saw_no_halt v n) s.words s.homes v.filling mine refl refl refl refl refl (asks_same s k id v at mine) (sent_words s k id v at mine) f
              (record { sent_is = refl; filling_is = refl; known_is = p.1.known_is })),
          ((λ lt. refl), (λ le. absurd (d le))),
        )
    go (yes d) =
        let p = own_publishing s k id v at mine in
        let done : ℕ = k.taken.counted in
        let w : MotionSight = saw_halt v n done in
        let are = sent_words s k id v at mine in (
          w,
          keeps,
          tt,
          loads s halted_word s.homes id w (published_by s k id v at w s.words s.homes v.filling mine refl refl refl refl refl (asks_same s k id v at mine)
              (record { wide = are.wide; head = are.head; done = are.done; stop = are.stop; halted = are.halted })
              (heeded_flows s.homes v.sent k.taken k.dropping k.finished_of v.filling k.busy f (there d))
              (record { sent_is = refl; filling_is = refl; known_is = p.1.known_is })),
          ((λ lt. absurd (omega arith)), (λ le. (done, refl, known s k id v at mine))),
        )
