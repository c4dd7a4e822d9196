use Rattle.std.proofs.Common.{◌≡◌, ◌+◌, ◌-◌, arith, length-set, ◌∙◌, subst}
use Rattle.profile.proofs.Passes.{IsBackTo, back_starts, back_on, back_ends, back_own}
use Rattle.profile.proofs.hold_ahead.Goals as goal

pub loop-i-init : goal.loop-i-init
loop-i-init c = record {
  points = c.requires.points;
  before = c.requires.before;
  low = omega (arith, c.requires.before);
  back = λ caps is. back_starts c.args.gaps.now caps c.args.speeds.now c.args.from is c.requires.before;
}

pub loop-i-preserved : goal.loop-i-preserved
loop-i-preserved c =
    let e : c.loop-i.i ≡ c.loop-i.i - 1 + 1 = omega arith in
    record {
      points = length-set c.loop-i.speeds (c.loop-i.i - 1) c.held-speed.result ∙ c.loop-i.invariant.points;
      before = omega (arith, c.last_own-own.ensures.among, c.loop-i.invariant.before);
      low = omega arith;
      back = λ caps is. back_on c.args.gaps.now caps c.loop-i.speeds c.args.from (c.loop-i.i - 1) c.loop-i.own c.held-speed.result c.last_own-own.result
          (subst (λ j. IsBackTo c.args.gaps.now caps c.args.from j c.loop-i.own c.loop-i.speeds) e (c.loop-i.invariant.back caps is)) (omega arith)
          (omega arith) c.held-speed.ensures c.last_own-own.ensures.own c.last_own-own.ensures.other;
    }

pub returns : goal.returns
returns c =
    let e : c.loop-i.i ≡ c.args.from + 1 = omega (arith, c.loop-i.invariant.low) in
    record {
      held = λ caps is. back_ends c.args.gaps.now caps c.loop-i.speeds c.args.from c.loop-i.own
          (subst (λ j. IsBackTo c.args.gaps.now caps c.args.from j c.loop-i.own c.loop-i.speeds) e (c.loop-i.invariant.back caps is));
      own = λ caps is. back_own c.args.gaps.now caps c.loop-i.speeds c.args.from c.loop-i.own
          (subst (λ j. IsBackTo c.args.gaps.now caps c.args.from j c.loop-i.own c.loop-i.speeds) e (c.loop-i.invariant.back caps is));
      before = c.loop-i.invariant.before;
      points = c.loop-i.invariant.points;
    }
