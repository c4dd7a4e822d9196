use Rattle.std.proofs.Common.{◌≡◌}
use Rattle.units.specs.Lengths.{IsPlace}
use Rattle.planner_bench.proofs.work.work.Given as goal

abbrev pub invariant-loop-i : goal.invariant-loop-i
invariant-loop-i l = record {
  overrides : l.overrides ≡ l.plan.overrides;
  place : IsPlace l.at;
}
