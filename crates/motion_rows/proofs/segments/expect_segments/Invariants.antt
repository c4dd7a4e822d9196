use Rattle.std.proofs.Common.{◌≡◌}
use Rattle.overrides.specs.Percents.{normal_overrides}
use Rattle.motion_rows.proofs.segments.expect_segments.Given as goal

abbrev pub invariant-loop-mode : goal.invariant-loop-mode
invariant-loop-mode g l = l.plan.overrides ≡ normal_overrides
