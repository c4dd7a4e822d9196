use Rattle.std.proofs.Common.{◌+◌, get_or, arith, ap, ◌∙◌}
use Rattle.profile.proofs.Places.{profile_at, greatest_smooth}
use Rattle.profile.proofs.Settled.{last_settled}
use Rattle.profile.proofs.plan_from.Goals as goal

pub rises_to-requires : goal.rises_to-requires
rises_to-requires c =
    let caps = c.requires.planned.0 in
    let is = c.hold_behind.ensures.planned caps (c.hold_ahead-own.ensures.held caps c.requires.planned.1) in
    record {
      points = c.hold_behind.ensures.points;
      before = c.hold_ahead-own.ensures.before;
      smooth = λ i h.
          let here = ap (λ s. get_or s i 0) is ∙ profile_at c.args.gaps.now caps i (omega (arith, h)) in
          let next = ap (λ s. get_or s (i + 1) 0) is ∙ profile_at c.args.gaps.now caps (i + 1) (omega (arith, h)) in
          let smooth = greatest_smooth c.args.gaps.now caps i in
          omega (arith, here, next, smooth);
    }

pub returns : goal.returns
returns c = record {
  planned = λ caps is. c.hold_behind.ensures.planned caps (c.hold_ahead-own.ensures.held caps is);
  settled = λ caps is start.
      let done = c.hold_behind.ensures.planned caps (c.hold_ahead-own.ensures.held caps is) in
      last_settled c.args.gaps.now caps c.hold_behind.new.speeds c.args.from c.hold_ahead-own.result c.rises_to.result
      (λ i h. ap (λ s. get_or s i 0) done ∙ profile_at c.args.gaps.now caps i h)
      (c.hold_ahead-own.ensures.own caps is) c.rises_to.ensures start;
}
