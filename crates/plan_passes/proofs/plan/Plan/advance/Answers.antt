use Rattle.std.proofs.Common.{refl, ◌≤◌, length, arith, rules, ap, sym, subst, ◌∙◌}
use Rattle.profile.specs.Profiles.{distance}
use Rattle.plan_rules.specs.Plans.{Planned, IsReached}
use Rattle.plan_rules.specs.Segments.{IsSegment, advanced}
use Rattle.plan_passes.proofs.Filling.{row_small}
use Rattle.plan_rules.proofs.Reached.{moved_reached, length-moved, legal_step, segment_some, segment_within, plan_of}
use Rattle.plan_passes.proofs.Hards.{hards_moved}
use Rattle.plan_passes.proofs.Kept.{kept_anew, kept_on, tabled_moved, one_below, none_below}
use Rattle.plan_passes.proofs.Nominals.{nominals_moved}
use Rattle.plan_passes.proofs.Onward.{onward_anew}
use Rattle.plan_passes.proofs.Paces.{pace_moved}
use Rattle.plan_passes.proofs.plan.Plan.advance.Goals as goal

pub prepare-gap-requires : goal.prepare-gap-requires
prepare-gap-requires g c =
    let p = c.self.inside in
    let segment = subst (λ (p : Planned). IsSegment p c.args.n c.args.w) (sym c.self.view_is) c.requires in
    let few = c.self.invariant.0.few in
    let some = segment_some p.ring p.speed c.args.n c.args.w p.overrides segment in
    let within = segment_within p.ring p.speed c.args.n c.args.w p.overrides c.self.invariant.0.reached segment in
    (omega (arith, few), (some, (c.self.invariant.0.reached.each, within)))

pub plan_from-self-inside-requires : goal.plan_from-self-inside-requires
plan_from-self-inside-requires g c =
    let p = c.self.inside in
    let segment = subst (λ (p : Planned). IsSegment p c.args.n c.args.w) (sym c.self.view_is) c.requires in
    let reached = moved_reached p.ring c.prepare-gap.new.ring p.speed c.args.n c.args.w p.overrides
    c.prepare-gap.ensures.moved c.self.invariant.0.reached segment in
    let tabled = tabled_moved g.row.N c.args.n c.prepare-gap.result p.overrides p.gaps c.put_first.new.gaps p.softs c.put_first.new.softs
    c.put_first.ensures.gaps_left c.put_first.ensures.softs_left c.put_first.ensures.gaps_gone c.put_first.ensures.softs_gone
    p.speed c.args.w p.settled p.planned p.ring c.prepare-gap.new.ring c.self.invariant.0 segment c.prepare-gap.ensures.moved c.prepare-gap.ensures.gap in
    let few = c.self.invariant.0.few in
    let count = c.len-count.ensures.few in (
      search rules,
      (
        search rules,
        (
          few,
          (
            omega (arith, count),
            (
              λ some. some,
              (
                λ i. row_small c.prepare-gap.new.ring c.len-count.result c.put_first.new.gaps i c.len-count.ensures.len tabled.gaps reached.each,
                onward_anew c.args.w c.len-count.result c.prepare-gap.new.ring p.overrides c.put_first.new.planned c.put_first.new.gaps c.put_first.new.softs
                    c.len-count.ensures.len tabled reached,
              ),
            ),
          ),
        ),
      ),
    )

pub invariant_of-self : goal.invariant_of-self
invariant_of-self g c =
    let p = c.self.inside in
    let kept = c.self.invariant.0 in
    let segment = subst (λ (p : Planned). IsSegment p c.args.n c.args.w) (sym c.self.view_is) c.requires in
    let now = c.prepare-gap.ensures.moved in
    let reach = subst (λ exit. distance c.args.w exit ≤ c.prepare-gap.result) (c.at-exit.ensures 0) (c.if-within_reach.ensures.0 refl) in
    let tabled = tabled_moved g.row.N c.args.n c.prepare-gap.result p.overrides p.gaps c.put_first.new.gaps p.softs c.put_first.new.softs
    c.put_first.ensures.gaps_left c.put_first.ensures.softs_left c.put_first.ensures.gaps_gone c.put_first.ensures.softs_gone
    p.speed c.args.w p.settled p.planned p.ring c.prepare-gap.new.ring kept segment now c.prepare-gap.ensures.gap in (
      kept_on g.row.N p.speed c.args.n c.args.w c.prepare-gap.result p.settled c.point_behind-self-inside.result p.overrides p.planned c.put_first.new.planned p.gaps p.softs
          c.put_first.new.gaps c.put_first.new.softs c.put_first.ensures.planned_left c.put_first.ensures.planned_gone
          c.point_behind-self-inside.ensures.left c.point_behind-self-inside.ensures.gone
          p.ring c.prepare-gap.new.ring kept segment now c.prepare-gap.ensures.gap reach tabled,
      pace_moved p.speed c.args.n c.args.w c.prepare-gap.result p.overrides p.pace c.pace_behind.new.kept p.ring c.prepare-gap.new.ring
          c.pace_behind.ensures.left c.pace_behind.ensures.gone kept.reached segment now c.prepare-gap.ensures.gap c.self.invariant.1,
      nominals_moved g.row.N c.args.n c.prepare-gap.result p.speed c.args.w p.overrides p.nominals c.put_first.new.nominals p.ring c.prepare-gap.new.ring
          c.put_first.ensures.nominals_left c.put_first.ensures.nominals_gone kept.room kept.reached segment now c.prepare-gap.ensures.gap c.self.invariant.2,
      hards_moved g.row.N c.args.n c.prepare-gap.result p.speed c.args.w p.overrides p.hards c.put_first.new.hards p.ring c.prepare-gap.new.ring
          c.put_first.ensures.hards_left c.put_first.ensures.hards_gone kept.room kept.reached segment now c.prepare-gap.ensures.gap c.self.invariant.3,
    )

pub invariant_of-self-2 : goal.invariant_of-self-2
invariant_of-self-2 g c =
    let p = c.self.inside in
    let kept = c.self.invariant.0 in
    let segment = subst (λ (p : Planned). IsSegment p c.args.n c.args.w) (sym c.self.view_is) c.requires in
    let now = c.prepare-gap.ensures.moved in
    let reached = moved_reached p.ring c.prepare-gap.new.ring p.speed c.args.n c.args.w p.overrides
    now kept.reached segment in
    let tabled = tabled_moved g.row.N c.args.n c.prepare-gap.result p.overrides p.gaps c.put_first.new.gaps p.softs c.put_first.new.softs
    c.put_first.ensures.gaps_left c.put_first.ensures.softs_left c.put_first.ensures.gaps_gone c.put_first.ensures.softs_gone
    p.speed c.args.w p.settled p.planned p.ring c.prepare-gap.new.ring kept segment now c.prepare-gap.ensures.gap in
    let fewer = length-moved c.args.n p.ring in
    let many = ap length now in (
      kept_anew g.row.N c.args.w c.len-count.result c.plan_from-self-inside.result c.prepare-gap.new.ring p.overrides c.plan_from-self-inside.new.speeds c.put_first.new.gaps
          c.put_first.new.softs kept.some kept.few (omega (arith, kept.room, fewer, many)) reached tabled c.len-count.ensures.len
          c.plan_from-self-inside.ensures.planned c.plan_from-self-inside.ensures.settled c.plan_from-self-inside.ensures.none,
      pace_moved p.speed c.args.n c.args.w c.prepare-gap.result p.overrides p.pace c.pace_behind.new.kept p.ring c.prepare-gap.new.ring
          c.pace_behind.ensures.left c.pace_behind.ensures.gone kept.reached segment now c.prepare-gap.ensures.gap c.self.invariant.1,
      nominals_moved g.row.N c.args.n c.prepare-gap.result p.speed c.args.w p.overrides p.nominals c.put_first.new.nominals p.ring c.prepare-gap.new.ring
          c.put_first.ensures.nominals_left c.put_first.ensures.nominals_gone kept.room kept.reached segment now c.prepare-gap.ensures.gap c.self.invariant.2,
      hards_moved g.row.N c.args.n c.prepare-gap.result p.speed c.args.w p.overrides p.hards c.put_first.new.hards p.ring c.prepare-gap.new.ring
          c.put_first.ensures.hards_left c.put_first.ensures.hards_gone kept.room kept.reached segment now c.prepare-gap.ensures.gap c.self.invariant.3,
    )

pub returns-then-within_reach-clause-legal : goal.returns-then-within_reach-clause-legal
returns-then-within_reach-clause-legal g c =
    legal_step c.args.self.now.blocks c.args.self.now.speed c.args.n c.args.w c.args.self.now.overrides
    (subst IsReached c.self.view_is c.self.invariant.0.reached) c.requires

pub returns-clause-legal : goal.returns-clause-legal
returns-clause-legal g c =
    legal_step c.args.self.now.blocks c.args.self.now.speed c.args.n c.args.w c.args.self.now.overrides
    (subst IsReached c.self.view_is c.self.invariant.0.reached) c.requires

pub at-exit-requires : goal.at-exit-requires
at-exit-requires g c = (search rules, one_below g.row.N c.self.invariant.0.some)

pub put_first-requires : goal.put_first-requires
put_first-requires g c = (search rules, (search rules, none_below g.row.N c.self.invariant.0.some))

pub point_behind-self-inside-requires : goal.point_behind-self-inside-requires
point_behind-self-inside-requires g c = tt

pub pace_behind-requires : goal.pace_behind-requires
pace_behind-requires g c = tt

pub within_reach-requires : goal.within_reach-requires
within_reach-requires g c = tt

pub len-count-requires : goal.len-count-requires
len-count-requires g c = omega (arith, c.self.invariant.0.few)

pub returns-then-within_reach-clause-advanced : goal.returns-then-within_reach-clause-advanced
returns-then-within_reach-clause-advanced g c =
    ap (λ bs. plan_of bs c.args.w c.self.inside.overrides) c.prepare-gap.ensures.moved
    ∙ ap (λ (q : Planned). advanced q c.args.n c.args.w) c.self.view_is

pub returns-clause-advanced : goal.returns-clause-advanced
returns-clause-advanced g c =
    ap (λ bs. plan_of bs c.args.w c.self.inside.overrides) c.prepare-gap.ensures.moved
    ∙ ap (λ (q : Planned). advanced q c.args.n c.args.w) c.self.view_is
