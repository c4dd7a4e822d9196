use Rattle.std.proofs.Common.{arith, rules, subst}
use Rattle.plan_rules.specs.Plans.{Planned, IsLastPoint}
use Rattle.plan_passes.proofs.Filling.{row_small}
use Rattle.plan_passes.proofs.Kept.{last_point}
use Rattle.plan_passes.proofs.Onward.{onward_anew}
use Rattle.plan_passes.proofs.plan.Plan.planned.Goals as goal

pub plan_from-requires : goal.plan_from-requires
plan_from-requires g c =
    let p = c.self.inside in
    let kept = c.self.invariant.0 in
    let few = c.self.invariant.0.few in
    let count = c.len-count.ensures.few in (
      search rules,
      (
        search rules,
        (
          few,
          (
            omega (arith, count),
            (
              λ some. some,
              (
                λ i. row_small p.ring c.len-count.result p.gaps i c.len-count.ensures.len kept.tabled.gaps kept.reached.each,
                onward_anew p.speed c.len-count.result p.ring p.overrides c.new-speeds.result p.gaps p.softs c.len-count.ensures.len kept.tabled kept.reached,
              ),
            ),
          ),
        ),
      ),
    )

pub returns : goal.returns
returns g c =
    let p = c.self.inside in
    subst (λ (p : Planned). IsLastPoint p c.plan_from.result) c.self.view_is
    (last_point p.speed c.len-count.result c.plan_from.result p.ring p.overrides p.gaps p.softs c.self.invariant.0.tabled c.len-count.ensures.len
    c.plan_from.ensures.settled c.plan_from.ensures.none)

pub len-count-requires : goal.len-count-requires
len-count-requires g c = omega (arith, c.self.invariant.0.few)

pub new-speeds-requires : goal.new-speeds-requires
new-speeds-requires g c = (search rules, c.self.invariant.0.few)
