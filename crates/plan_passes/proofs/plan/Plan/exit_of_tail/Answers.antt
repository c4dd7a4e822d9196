use Rattle.std.proofs.Common.{◌≡◌, ◌<◌, length, get_or, sym, subst, arith, ◌∙◌, ap, rules}
use Rattle.plan_rules.specs.Plans.{Planned, IsReached, profile_of, exit_of}
use Rattle.plan_rules.proofs.Reached.{plan_of, greatest_plan, exit_at}
use Rattle.plan_passes.proofs.Kept.{one_below}
use Rattle.plan_passes.proofs.plan.Plan.exit_of_tail.Goals as goal

pub returns-clause-profile : goal.returns-clause-profile
returns-clause-profile g c =
    let inside = c.self.inside in
    let p : Planned = plan_of inside.ring inside.speed inside.overrides in
    let some : 0 < length inside.ring = subst (λ (p : Planned). 0 < length p.blocks) (sym c.self.view_is) c.requires in
    let exit = c.self.invariant.0.planned 1 (omega arith) (omega arith) in
    subst (λ (p : Planned). c.at.result ≡ get_or (profile_of p) 1 0) c.self.view_is (c.at.ensures 0 ∙ exit ∙ exit_at p some)

pub returns-clause-greatest : goal.returns-clause-greatest
returns-clause-greatest g c = greatest_plan c.args.self.now (subst IsReached c.self.view_is c.self.invariant.0.reached) c.requires

pub at-requires : goal.at-requires
at-requires g c = (search rules, one_below g.row.N c.self.invariant.0.some)

pub returns-clause-exit : goal.returns-clause-exit
returns-clause-exit g c =
    let some : 0 < length c.self.inside.ring = subst (λ (p : Planned). 0 < length p.blocks) (sym c.self.view_is) c.requires in
    let exit = c.self.invariant.0.planned 1 (omega arith) some in
    c.at.ensures 0 ∙ exit ∙ ap exit_of c.self.view_is

pub returns-clause-reached : goal.returns-clause-reached
returns-clause-reached g c = subst IsReached c.self.view_is c.self.invariant.0.reached
