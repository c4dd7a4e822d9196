use Rattle.std.proofs.Common.{lit<}
use Rattle.gcode_check.proofs.Moving.{few_stops, more_stops, near_stops, all_stops}
use Rattle.gcode_check.proofs.effects.stops.Goals as goal

pub steps3-requires : goal.steps3-requires
steps3-requires c = record { near = c.requires.near c.loop-point.point-index _ c.loop-point-test.true; scales = c.requires.scales }

pub push-requires : goal.push-requires
push-requires c =
    (lit< tt, few_stops c.args.per_mm.now c.args.points.now c.loop-point.point-index c.loop-point.stops.items c.loop-point.invariant.same c.loop-point-test.true c.requires.two)

pub loop-point-preserved : goal.loop-point-preserved
loop-point-preserved c = record {
  same = more_stops c.args.per_mm.now c.args.points.now c.loop-point.point-index _ c.loop-point.stops.items _ c.steps3.result c.loop-point-test.true c.loop-point.invariant.same c.steps3.ensures.steps c.push.ensures.items;
  near = near_stops c.loop-point.stops.items _ c.steps3.result c.push.ensures.items c.loop-point.invariant.near c.steps3.ensures.near;
}

pub returns-clause-stops : goal.returns-clause-stops
returns-clause-stops c = all_stops c.args.per_mm.now c.args.points.now c.loop-point.point-index c.loop-point.stops.items c.loop-point.invariant.same c.loop-point-test.false

pub returns-clause-near : goal.returns-clause-near
returns-clause-near c = c.loop-point.invariant.near
