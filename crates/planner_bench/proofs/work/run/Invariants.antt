use Rattle.std.proofs.Common.{◌≡◌}
use Rattle.planner_bench.proofs.work.run.Given as goal

abbrev pub invariant-loop : goal.invariant-loop
invariant-loop l = l.o ≡ l.plan.overrides
