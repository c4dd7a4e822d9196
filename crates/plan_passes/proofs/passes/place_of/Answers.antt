use Rattle.std.proofs.Common.{◌≡◌, ◌*◌, ◌^◌, ◌≤◌, arith, ap, sym, subst, ◌∙◌}
use Rattle.profile.specs.Profiles.{place}
use Rattle.profile.proofs.Places.{place_none, place_more}
use Rattle.plan_passes.proofs.passes.place_of.Goals as goal

pub loop-i-init : goal.loop-i-init
loop-i-init c = record { at = sym (place_none c.args.gaps.now); small = omega arith }

pub overflow_add-place : goal.overflow_add-place
overflow_add-place c =
    let small = c.requires.small c.loop-i.i in
    omega (arith, c.loop-i.invariant.small, small, c.requires.few, c.requires.within)

pub loop-i-preserved : goal.loop-i-preserved
loop-i-preserved c =
    let more = place_more c.args.gaps.now c.loop-i.i in
    let small = c.requires.small c.loop-i.i in
    record {
      at = omega (arith, more, c.loop-i.invariant.at);
      small = omega (arith, c.loop-i.invariant.small, small);
    }

pub returns : goal.returns
returns c =
    let e : c.loop-i.i ≡ c.args.count = omega arith in
    record {
      place = c.loop-i.invariant.at ∙ ap (place c.args.gaps.now) e;
      small = subst (λ i. c.loop-i.place ≤ i * 2 ^ 71) e c.loop-i.invariant.small;
    }
