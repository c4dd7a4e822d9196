use Rattle.std.proofs.Common.{◌≡◌, ◌+◌, ◌-◌, ◌%◌, true, false, Some, [], ◌∷◌, length, get_or, refl, sym, ap, ◌∙◌, subst, rules, arith}
use Rattle.std.specs.declared.option.Option.{Option}
use mathlib.Core.Option.{none}
use Rattle.atomic_table.specs.Table.{Me, rest, step, Allows}
use Rattle.step_line.specs.declared.Piece.{Piece}
use Rattle.step_line.proofs.Finished.{together}
use Rattle.motion_ring.specs.declared.view.MotionSight.{MotionSight}
use Rattle.motion_ring.specs.Rule.{Kept, saw_slot, published}
use Rattle.motion_ring.specs.Sides.{room_from, unfinished_in, earlier_ticks, published_in, ticks_published, with_piece}
use Rattle.motion_ring.proofs.Ticks.{few_shown, many_shown}
use Rattle.motion_ring.proofs.Publishing.{reaches, publishes}
use Rattle.motion_ring.proofs.ends.SegOut.publish.Goals as goal

pub load-done-requires : goal.load-done-requires
load-done-requires c = let o = c.args.self.now in (search rules, search rules, reaches _ _ _ _ o.mine.0 o.mine.1 c.requires.running c.requires.going)

pub store-requires : goal.store-requires
store-requires c =
    let o = c.args.self.now in
    let bar : get_or o.before 3 0 ≡ room_from o.seat.me.0.sent = ap (λ l. get_or l 3 0) o.sums in
    let took = c.load-done.ensures.2.1 (omega arith) in
    let wrote = c.exchange.ensures.3 in
    let bare = ap (λ m. rest m.1) took ∙ o.bare in
    let now : c.exchange.new.seat.me ≡ (saw_slot o.seat.me.0 c.load-done.result, (o.slot, Some c.args.p) ∷ []) =
    wrote ∙ (λ i. (ap (λ m. m.0) took i, (o.slot, Some c.args.p) ∷ bare i)) in
    let P : Me (Option Piece) MotionSight → Type 0 = λ m. Allows Kept c.deref.result.now.shared.table_id.slots c.exchange.new.seat.id m 0 (λ _. o.head + 1) (λ _. published (step c.deref.result.now.shared.table_id.slots 0 (o.head + 1) 0 none) m (o.head + 1)) in
    (search rules, search rules, subst P (sym now) (publishes _ _ _ _ _ c.args.p o.mine.0 refl (o.placed ∙ ap (λ z. z % 6) o.counted) c.requires (ap (λ z. z + 1) o.counted)))

pub returns-then-done-self-clause-full : goal.returns-then-done-self-clause-full
returns-then-done-self-clause-full c =
    let o = c.args.self.now in
    let bar : get_or o.before 3 0 ≡ room_from o.seat.me.0.sent = ap (λ l. get_or l 3 0) o.sums in
    let told = c.load-done.ensures.2.0 in
    let shut = c.load-done.ensures.2.2 (omega arith) in
    let five : unfinished_in o.seat.me.0.sent c.load-done.result ≡ 5 = many_shown _ _ told c.requires.going (omega arith) in
    (ap (λ m. unfinished_in o.seat.me.0.sent m.0.known) shut ∙ five, ap (λ m. m.0.sent) shut)

pub returns-clause-room : goal.returns-clause-room
returns-clause-room c =
    let o = c.args.self.now in
    let bar : get_or o.before 3 0 ≡ room_from o.seat.me.0.sent = ap (λ l. get_or l 3 0) o.sums in
    let told = c.load-done.ensures.2.0 in
    let took = c.load-done.ensures.2.1 (omega arith) in
    let wrote = c.exchange.ensures.3 in
    let gave = c.store.ensures.2 o.slot c.args.p (ap (λ m. m.1) wrote ∙ (λ i. (o.slot, Some c.args.p) ∷ (ap (λ m. rest m.1) took ∙ o.bare) i)) in
    let few = few_shown _ _ told c.requires.going (omega arith) in
    let same : c.store.new.seat.me.0.known ≡ c.load-done.result = ap (λ m. m.0.known) gave ∙ (ap (λ m. m.0.known) wrote ∙ ap (λ m. m.0.known) took) in
    let e : unfinished_in o.seat.me.0.sent c.store.new.seat.me.0.known ≡ unfinished_in o.seat.me.0.sent c.load-done.result = ap (unfinished_in o.seat.me.0.sent) same in
    omega arith

pub invariant_of-self-2 : goal.invariant_of-self-2
invariant_of-self-2 c =
    let o = c.args.self.now in
    let bar : get_or o.before 3 0 ≡ room_from o.seat.me.0.sent = ap (λ l. get_or l 3 0) o.sums in
    let took = c.load-done.ensures.2.1 (omega arith) in
    let wrote = c.exchange.ensures.3 in
    let gave = c.store.ensures.2 o.slot c.args.p (ap (λ m. m.1) wrote ∙ (λ i. (o.slot, Some c.args.p) ∷ (ap (λ m. rest m.1) took ∙ o.bare) i)) in
    let view = ap (λ m. m.0) wrote ∙ ap (λ m. m.0) took in
    let now : c.store.new.seat.me.0.sent ≡ with_piece o.seat.me.0.sent c.args.p = ap (λ m. m.0.sent) gave ∙ ap (λ v. with_piece v.sent c.args.p) view in
    let t = together c.args.p o.seat.me.0.sent.since in
    let sum = ap ticks_published now in
    let few = c.requires.few in
    record {
      seated = search rules;
      sized = search rules;
      bare = ap (λ m. m.1) gave;
      mine = (ap (λ m. m.0.may_publish) gave ∙ (ap (λ v. v.may_publish) view ∙ o.mine.0), ap (λ m. m.0.filling) gave);
      counted = (let l = ap (λ s. length (published_in s)) now in let e = o.counted in omega arith);
      placed = omega arith;
      summed = (omega arith, omega arith);
      sums = (λ i. o.summed.0 i ∷ ap (λ l. get_or l 0 0) o.sums i ∷ ap (λ l. get_or l 1 0) o.sums i ∷ ap (λ l. get_or l 2 0) o.sums i ∷ []) ∙ sym (ap earlier_ticks now);
      awaited = λ w. absurd (let e = ap (λ s. s.waits) now in let x : true ≡ false = sym w ∙ (e ∙ c.requires.running) in cc);
    }
