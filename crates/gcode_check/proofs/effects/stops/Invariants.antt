use Rattle.std.proofs.Common.{◌≡◌, map, take}
use Rattle.std.specs.List.{All}
use Rattle.units.specs.Lengths.{IsPlace}
use Rattle.travel_limits.specs.Reach.{steps3}
use Rattle.gcode_check.proofs.effects.stops.Given as goal

-- the points so far, in steps
abbrev pub invariant-loop-point : goal.invariant-loop-point
invariant-loop-point l = record {
  same : l.stops.items ≡ map (steps3 l.per_mm) (take l.point-index l.points);
  near : All IsPlace l.stops.items;
}
