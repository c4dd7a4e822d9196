use Rattle.std.proofs.Common.{rules, refl, arith, subst}
use Rattle.plan_rules.specs.Plans.{Planned, IsReached}
use Rattle.plan_passes.specs.Paces.{IsSteadyOf}
use Rattle.plan_passes.proofs.Kept.{one_below}
use Rattle.plan_passes.proofs.Paces.{tail_kept, steady_kept}
use Rattle.plan_passes.proofs.plan.Plan.steady.Goals as goal

pub returns-then-self-eq0-clause-steady : goal.returns-then-self-eq0-clause-steady
returns-then-self-eq0-clause-steady g c = tt

pub returns-then-self-eq0-clause-reached : goal.returns-then-self-eq0-clause-reached
returns-then-self-eq0-clause-reached g c = subst IsReached c.self.view_is c.self.invariant.0.reached

pub tail-requires : goal.tail-requires
tail-requires g c = omega (arith, c.self.invariant.0.few)

pub returns-in_err-tail-clause-reached : goal.returns-in_err-tail-clause-reached
returns-in_err-tail-clause-reached g c = subst IsReached c.self.view_is c.self.invariant.0.reached

pub at-requires : goal.at-requires
at-requires g c = (search rules, one_below g.row.N c.self.invariant.0.some)

pub goes_on-requires : goal.goes_on-requires
goes_on-requires g c =
    let p = c.self.inside in
    let tail = tail_kept g.row.N p.speed p.settled p.ring p.overrides p.planned p.gaps p.softs c.in_ok-tail.tail c.self.invariant.0 c.in_ok-tail.ensures.some in
    tail.block

pub returns-then-goes_on-clause-steady : goal.returns-then-goes_on-clause-steady
returns-then-goes_on-clause-steady g c =
    let p = c.self.inside in
    subst (λ (plan : Planned). IsSteadyOf plan plan.blocks p.pace) c.self.view_is
    (steady_kept g.row.N p.speed p.settled c.at.result p.ring p.overrides p.planned p.gaps p.softs c.in_ok-tail.tail p.pace c.self.invariant.0
    c.in_ok-tail.ensures.some c.self.invariant.1 c.if-self-eq0.false c.if-self.false (c.at.ensures 0) (c.if-goes_on.ensures.0 refl))

pub returns-then-goes_on-clause-reached : goal.returns-then-goes_on-clause-reached
returns-then-goes_on-clause-reached g c = subst IsReached c.self.view_is c.self.invariant.0.reached

pub returns-else-goes_on-clause-steady : goal.returns-else-goes_on-clause-steady
returns-else-goes_on-clause-steady g c = tt

pub returns-else-goes_on-clause-reached : goal.returns-else-goes_on-clause-reached
returns-else-goes_on-clause-reached g c = subst IsReached c.self.view_is c.self.invariant.0.reached
