use Rattle.std.proofs.Common.{◌+◌, get_or, length, length-set, get_or-set_same, get_or-set_other, arith, ◌∙◌}
use Rattle.profile.proofs.Places.{place_more}
use Rattle.plan_passes.proofs.Filling.{cap_put, last_put}
use Rattle.plan_passes.proofs.passes.fill_caps.Goals as goal

pub loop-i-init : goal.loop-i-init
loop-i-init c = record {
  room = length-set c.args.speeds.now 0 c.args.w ∙ c.requires.room;
  low = omega arith;
  at = c.place_of-place.ensures.place;
  small = c.place_of-place.ensures.small;
  first = get_or-set_same c.args.speeds.now 0 c.args.w 0 (omega (arith, c.requires.room));
  before = λ j some l. get_or-set_other c.args.speeds.now 0 j c.args.w 0 (omega (arith, some));
  filled = λ j l u. absurd (omega (arith, l, u));
}

pub overflow_add-place : goal.overflow_add-place
overflow_add-place c =
    let small = c.requires.small c.loop-i.i in
    omega (arith, c.loop-i.invariant.small, small, c.requires.few, c.requires.junctions)

pub loop-i-preserved : goal.loop-i-preserved
loop-i-preserved c =
    let i = c.loop-i.i in
    let place = c.loop-i.place + get_or c.args.gaps.now i 0 in
    let more = place_more c.args.gaps.now i in
    let small = c.requires.small i in
    let kept = c.loop-i.invariant in
    record {
      room = length-set c.loop-i.speeds (i + 1) c.cap.result ∙ kept.room;
      low = omega (arith, kept.low);
      at = omega (arith, more, kept.at);
      small = omega (arith, kept.small, small);
      first = get_or-set_other c.loop-i.speeds (i + 1) 0 c.cap.result 0 (omega arith) ∙ kept.first;
      before = λ j some l. get_or-set_other c.loop-i.speeds (i + 1) j c.cap.result 0 (omega (arith, l, kept.low)) ∙ kept.before j some l;
      filled = cap_put c.args.from c.args.w c.args.gaps.now c.args.softs.now c.loop-i.speeds i place c.cap.result
          (omega arith) (omega (arith, kept.room, c.requires.junctions)) (omega (arith, more, kept.at)) c.cap.ensures kept.filled;
    }

pub returns : goal.returns
returns c =
    let kept = c.loop-i.invariant in
    let last = length c.args.softs.now in
    record {
      room = length-set c.loop-i.speeds (last + 1) 0 ∙ kept.room;
      first = get_or-set_other c.loop-i.speeds (last + 1) 0 0 0 (omega arith) ∙ kept.first;
      before = λ j some l. get_or-set_other c.loop-i.speeds (last + 1) j 0 0 (omega (arith, l, c.requires.before, c.requires.junctions)) ∙ kept.before j some l;
      caps = last_put c.args.from c.args.w c.loop-i.i c.args.gaps.now c.args.softs.now c.loop-i.speeds kept.room c.requires.junctions
          (omega (arith, kept.low, c.requires.before, c.requires.junctions)) kept.filled;
    }
