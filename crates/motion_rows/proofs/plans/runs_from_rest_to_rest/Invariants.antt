use Rattle.std.proofs.Common.{◌≡◌}
use Rattle.motion_rows.proofs.plans.runs_from_rest_to_rest.Given as goal

abbrev pub invariant-loop : goal.invariant-loop
invariant-loop g l = l.overrides ≡ l.plan.overrides
