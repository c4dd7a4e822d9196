use Rattle.std.proofs.Common.{arith, rules, refl, ap}
use Rattle.plan_passes.proofs.Filling.{row_small}
use Rattle.plan_rules.proofs.Reached.{reached_replanned}
use Rattle.plan_passes.proofs.Kept.{kept_anew}
use Rattle.plan_passes.proofs.Onward.{onward_anew}
use Rattle.plan_passes.proofs.Paces.{no_pace}
use Rattle.plan_rules.specs.Plans.{Planned}
use Rattle.plan_passes.proofs.plan.Plan.replan.Goals as goal

pub plan_from-self-inside-requires : goal.plan_from-self-inside-requires
plan_from-self-inside-requires g c =
    let p = c.self.inside in
    let kept = c.self.invariant.0 in
    let reached = reached_replanned p.ring p.speed p.overrides c.args.o.now kept.reached c.requires in
    let few = c.self.invariant.0.few in
    let count = c.len-count.ensures.few in (
      search rules,
      (
        search rules,
        (
          few,
          (
            omega (arith, count),
            (
              λ some. some,
              (
                λ i. row_small p.ring c.len-count.result p.gaps i c.len-count.ensures.len kept.tabled.gaps kept.reached.each,
                onward_anew p.speed c.len-count.result p.ring c.args.o.now p.planned p.gaps c.fill_softs.new.softs c.len-count.ensures.len
                    (record { gaps = kept.tabled.gaps; softs = c.fill_softs.ensures.softs }) reached,
              ),
            ),
          ),
        ),
      ),
    )

pub invariant_of-self : goal.invariant_of-self
invariant_of-self g c =
    let p = c.self.inside in
    let kept = c.self.invariant.0 in
    let reached = reached_replanned p.ring p.speed p.overrides c.args.o.now kept.reached c.requires in (
      kept_anew g.row.N p.speed c.len-count.result c.plan_from-self-inside.result p.ring c.args.o.now c.plan_from-self-inside.new.speeds p.gaps c.fill_softs.new.softs
          kept.some kept.few kept.room reached (record { gaps = kept.tabled.gaps; softs = c.fill_softs.ensures.softs })
          c.len-count.ensures.len c.plan_from-self-inside.ensures.planned c.plan_from-self-inside.ensures.settled c.plan_from-self-inside.ensures.none,
      no_pace p.ring c.args.o.now _ refl,
      c.fill_softs.ensures.nominals,
      c.self.invariant.3,
    )

pub fill_softs-requires : goal.fill_softs-requires
fill_softs-requires g c = (omega (arith, c.self.invariant.0.few), (search rules, (c.self.invariant.0.reached.each, (c.requires, c.self.invariant.3))))

pub len-count-requires : goal.len-count-requires
len-count-requires g c = omega (arith, c.self.invariant.0.few)

pub returns : goal.returns
returns g c = ap (λ (q : Planned). record q { overrides = c.args.o.now }) c.self.view_is
