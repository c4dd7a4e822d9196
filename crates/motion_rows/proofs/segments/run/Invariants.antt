use Rattle.std.proofs.Common.{◌≡◌}
use Rattle.overrides.specs.Percents.{normal_overrides}
use Rattle.motion_rows.proofs.segments.run.Given as goal

abbrev pub invariant-loop : goal.invariant-loop
invariant-loop g l = l.plan.overrides ≡ normal_overrides
