use Rattle.std.proofs.Common.{◌≡◌, ◌+◌, length, length-set, ◌∙◌, arith, subst}
use Rattle.profile.specs.Settled.{IsHeldTo}
use Rattle.profile.proofs.Passes.{forward_on, forward_ends}
use Rattle.profile.proofs.hold_behind.Goals as goal

pub loop-i-init : goal.loop-i-init
loop-i-init c = record { points = c.requires.points; held = λ caps is. is }

pub loop-i-preserved : goal.loop-i-preserved
loop-i-preserved c = record {
  points = length-set c.loop-i.speeds (c.loop-i.i + 1) c.held.result ∙ c.loop-i.invariant.points;
  held = λ caps is. forward_on c.args.gaps.now caps c.loop-i.speeds c.loop-i.i c.held.result (c.loop-i.invariant.held caps is) (omega arith) c.held.ensures;
}

pub returns : goal.returns
returns c =
    let e : c.loop-i.i ≡ length c.args.gaps.now = omega arith in
    record {
      planned = λ caps is. forward_ends c.args.gaps.now caps c.loop-i.speeds
          (subst (λ j. IsHeldTo c.args.gaps.now caps j c.loop-i.speeds) e (c.loop-i.invariant.held caps is));
      points = c.loop-i.invariant.points;
    }
