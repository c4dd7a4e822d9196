use Rattle.std.proofs.Common.{length, ap, ◌∙◌}
use Rattle.profile.specs.Caps.{caps}
use Rattle.profile.proofs.Places.{length-profile}
use Rattle.plan_passes.proofs.Filling.{planned_is, planned_to}
use Rattle.plan_passes.proofs.passes.plan_points.Goals as goal

pub plan_from-requires-clause-planned : goal.plan_from-requires-clause-planned
plan_from-requires-clause-planned c = (
  caps c.args.w c.args.gaps.now c.args.softs.now,
  planned_to c.args.w c.args.from c.args.gaps.now c.args.softs.now c.fill_caps.new.speeds c.args.speeds.now
      c.fill_caps.ensures.room c.requires.onward.first c.fill_caps.ensures.first c.requires.onward.planned_to
      c.fill_caps.ensures.before c.fill_caps.ensures.caps,
)

pub returns : goal.returns
returns c =
    let top = caps c.args.w c.args.gaps.now c.args.softs.now in
    let to = planned_to c.args.w c.args.from c.args.gaps.now c.args.softs.now c.fill_caps.new.speeds c.args.speeds.now
    c.fill_caps.ensures.room c.requires.onward.first c.fill_caps.ensures.first c.requires.onward.planned_to
    c.fill_caps.ensures.before c.fill_caps.ensures.caps in
    let done = c.plan_from.ensures.planned top to in
    record {
      room = ap length done ∙ length-profile c.args.gaps.now top;
      planned = λ j some h. planned_is c.args.w j c.args.gaps.now c.args.softs.now c.plan_from.new.speeds done h;
      settled = c.plan_from.ensures.settled top to c.requires.onward.settled;
    }
