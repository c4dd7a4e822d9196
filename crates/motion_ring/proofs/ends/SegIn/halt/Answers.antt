use Rattle.std.proofs.Common.{◌≡◌, ◌+◌, ◌-◌, ◌%◌, ◌++◌, ◌<◌, ℕ, [], ◌∷◌, length, refl, sym, ap, ◌∙◌, subst, rules, arith, length-append}
use Rattle.std.specs.declared.option.Option.{Option}
use Rattle.units.specs.Truths.{one_if}
use Rattle.atomic_table.specs.Table.{Me, step, Allows}
use mathlib.Core.Option.{none}
use Rattle.step_line.specs.declared.Piece.{Piece}
use Rattle.motion_ring.specs.declared.view.MotionSight.{MotionSight}
use Rattle.motion_ring.specs.Ticks.{halted_word}
use Rattle.motion_ring.specs.Sides.{passed_in}
use Rattle.motion_ring.specs.Rule.{Kept, MayHalt, with_dropped, halted, empty_slots}
use Rattle.motion_ring.proofs.Getting.{recalls, halts, hand_of, held_of}
use Rattle.motion_ring.proofs.ends.SegIn.halt.Goals as goal

pub load-stop-requires : goal.load-stop-requires
load-stop-requires c = let o = c.args.self.now in (search rules, search rules, recalls _ _ _ _ o.mine.0 c.requires)

pub drop_pieces-self-requires-clause-may : goal.drop_pieces-self-requires-clause-may
drop_pieces-self-requires-clause-may c =
    let o = c.args.self.now in
    let told = c.load-stop.ensures.2 in
    let m = o.seat.me in
    let may : MayHalt m o.slot o.taken c.load-stop.result = record {
      mine = o.mine.0;
      above = c.requires;
      stop_is = told.1;
      none_dropped = o.mine.1;
      from_is = o.gotten;
      within = (let a = told.2 in let g = o.gotten in omega arith);
      held = (let g = o.gotten in let h = held_of m.0.busy (length (passed_in m.0.taken)) (λ e. (o.at_work e).0) in omega arith);
      hand = hand_of m.0.busy (length (passed_in m.0.taken)) m.1 (λ e. (o.idle e).0) (λ e. (o.at_work e).1) ∙ ap (λ n. empty_slots (n - one_if m.0.busy) (one_if m.0.busy)) (sym o.gotten);
      place = o.placed;
    } in
    subst (λ m. MayHalt m o.slot o.taken c.load-stop.result) (sym told.0) may

pub store-requires : goal.store-requires
store-requires c =
    let o = c.args.self.now in
    let told = c.load-stop.ensures.2 in
    let d = c.drop_pieces-self.ensures.dropped in
    let v = with_dropped o.seat.me.0 d.0 in
    let first : ℕ = o.taken - one_if o.seat.me.0.busy in
    let n : ℕ = one_if o.seat.me.0.busy + length d.0 in
    let now : c.drop_pieces-self.new.seat.me ≡ (v, empty_slots first n) = d.1 ∙ ap (λ m. (with_dropped m.0 d.0, empty_slots (o.taken - one_if m.0.busy) (one_if m.0.busy + length d.0))) told.0 in
    let g = o.gotten in
    let h = held_of o.seat.me.0.busy (length (passed_in o.seat.me.0.taken)) (λ e. (o.at_work e).0) in
    let all = length-append d.0 (passed_in o.seat.me.0.taken) in
    let len = d.2 in
    let stop = told.1 in
    let P : Me (Option Piece) MotionSight → Type 0 = λ m. Allows Kept c.deref.result.now.shared.table_id.slots c.drop_pieces-self.new.seat.id m halted_word (λ _. c.load-stop.result) (λ _. halted (step c.deref.result.now.shared.table_id.slots halted_word c.load-stop.result 0 none) m c.load-stop.result) in
    (search rules, search rules, subst P (sym now) (halts _ _ _ first n v o.mine.0 c.requires stop (omega arith) (omega arith) refl))
