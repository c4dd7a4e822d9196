use Rattle.std.proofs.Common.{ap, length, ◌∙◌, arith}
use Rattle.plan_rules.specs.Plans.{Planned}
use Rattle.plan_passes.proofs.plan.Plan.len.Goals as goal

pub returns : goal.returns
returns g c = c.len.ensures.len ∙ ap (λ (p : Planned). length p.blocks) c.self.view_is

pub len-requires : goal.len-requires
len-requires g c = omega (arith, c.self.invariant.0.few)
