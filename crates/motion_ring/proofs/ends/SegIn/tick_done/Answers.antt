use Rattle.std.proofs.Common.{◌+◌, refl, sym, subst, rules, arith}
use Rattle.std.specs.declared.option.Option.{Option}
use Rattle.atomic_table.specs.Table.{Me, step, Allows}
use mathlib.Core.Option.{none}
use Rattle.step_line.specs.declared.Piece.{Piece}
use Rattle.motion_ring.specs.declared.view.MotionSight.{MotionSight}
use Rattle.motion_ring.specs.Ticks.{done_word}
use Rattle.motion_ring.specs.Rule.{Kept, finished}
use Rattle.motion_ring.proofs.Getting.{ticks, finishes}
use Rattle.motion_ring.proofs.Seats.{working}
use Rattle.motion_ring.proofs.ends.SegIn.tick_done.Goals as goal

pub store-requires : goal.store-requires
store-requires c =
    let o = c.args.self.now in
    let busy = working o.seat.me.0.busy o.seat.me.0.taken.left c.requires (λ e. (o.idle e).1) in
    let P : Me (Option Piece) MotionSight → Type 0 = λ m. Allows Kept c.deref.result.now.shared.table_id.slots o.seat.id m done_word (λ _. o.counted + 1) (λ _. finished (step c.deref.result.now.shared.table_id.slots done_word (o.counted + 1) 0 none) m (o.counted + 1)) in
    (search rules, search rules, subst P (λ i. (o.seat.me.0, sym (o.at_work busy).1 i)) (finishes _ _ _ _ o.seat.me.0 o.mine.0 busy (omega arith) refl (omega arith)))

pub store-requires-else-self-eq1 : goal.store-requires-else-self-eq1
store-requires-else-self-eq1 c = let o = c.args.self.now in (search rules, search rules, ticks _ _ _ _ _ o.mine.0 (omega arith) (omega arith))
