use Rattle.std.proofs.Common.{IfSome, subst, ◌≡◌, ◌↔◌, [], IsNone, arith}
use Rattle.plan_rules.specs.Plans.{Planned, IsTail}
use Rattle.plan_rules.proofs.Reached.{plan_of, tail_if}
use Rattle.plan_passes.proofs.plan.Plan.tail.Goals as goal

pub returns-clause-some : goal.returns-clause-some
returns-clause-some g c =
    let p : Planned = plan_of c.self.inside.ring c.self.inside.speed c.self.inside.overrides in
    subst (λ (p : Planned). IfSome c.tail.result (λ b. IsTail p b.now)) c.self.view_is
    (tail_if c.tail.result p c.tail.ensures.some c.self.invariant.0.reached)

pub tail-requires : goal.tail-requires
tail-requires g c = omega (arith, c.self.invariant.0.few)

pub returns-clause-none : goal.returns-clause-none
returns-clause-none g c = subst (λ (p : Planned). IsNone c.tail.result ↔ (p.blocks ≡ [])) c.self.view_is c.tail.ensures.none
