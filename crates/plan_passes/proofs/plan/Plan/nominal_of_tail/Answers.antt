use Rattle.std.proofs.Common.{◌≡◌, length, take, subst, ◌∙◌, rules}
use Rattle.plan_rules.specs.Plans.{Planned, IsReached}
use Rattle.plan_passes.specs.Tables.{nominals_of}
use Rattle.plan_passes.proofs.Nominals.{nominal_of_tail}
use Rattle.plan_passes.proofs.Kept.{none_below}
use Rattle.plan_passes.proofs.plan.Plan.nominal_of_tail.Goals as goal

pub returns-clause-nominal : goal.returns-clause-nominal
returns-clause-nominal g c = λ b tail.
    let row = c.self.inside.nominals in
    let is = subst (λ (p : Planned). take (length p.blocks) row ≡ nominals_of p.overrides p.blocks) c.self.view_is c.self.invariant.2 in
    c.at.ensures 0 ∙ nominal_of_tail c.args.self.now b row tail is

pub at-requires : goal.at-requires
at-requires g c = (search rules, none_below g.row.N c.self.invariant.0.some)

pub returns-clause-reached : goal.returns-clause-reached
returns-clause-reached g c = subst IsReached c.self.view_is c.self.invariant.0.reached
