use Rattle.std.proofs.Common.{ap, subst}
use Rattle.plan_rules.specs.Plans.{Planned, IsReached}
use Rattle.plan_passes.proofs.plan.Plan.speed.Goals as goal

pub returns-clause-speed : goal.returns-clause-speed
returns-clause-speed g c = ap (λ (p : Planned). p.speed) c.self.view_is

pub returns-clause-reached : goal.returns-clause-reached
returns-clause-reached g c = subst IsReached c.self.view_is c.self.invariant.0.reached
