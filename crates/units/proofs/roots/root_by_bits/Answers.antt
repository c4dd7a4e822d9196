use Rattle.std.proofs.Common.{◌-◌, arith}
use Rattle.std.proofs.lemmas.Nat.{one_shl}
use Rattle.units.proofs.Places.{top, top_fits, halves}
use Rattle.units.proofs.roots.root_by_bits.Goals as goal

pub loop-place-init : goal.loop-place-init
loop-place-init c = record {
  low = omega arith;
  high = let e = top c.args.x c.ilog2.result c.ilog2.ensures.next_power_gt in grind (arith, e);
  fits = omega (arith, top_fits c.ilog2.result c.ilog2.ensures.bound);
}

pub overflow_add-next : goal.overflow_add-next
overflow_add-next c =
    let p = c.loop-place.place in
    let step = one_shl (p - 1) 64 (omega arith) in
    let half = halves p c.loop-place-test.true in
    rw step (record { fits = omega (arith, half.0, half.1) })

pub loop-place-preserved : goal.loop-place-preserved
loop-place-preserved c =
    let p = c.loop-place.place in
    let step = one_shl (p - 1) 64 (omega arith) in
    let half = halves p c.loop-place-test.true in
    record {
      low = c.loop-place.invariant.low;
      high = rw step at c.if-next-x.false;
      fits = omega (arith, half.0);
    }
