use Rattle.std.proofs.Common.{arith, length-set, ◌∙◌}
use Rattle.actor_turns.proofs.Sifting.{sifts_on, at_most_one}
use Rattle.actor_turns.proofs.lockstep.Order.sift.Goals as goal

pub loop-preserved : goal.loop-preserved
loop-preserved c =
    let i = c.loop.invariant in
    let more = c.from-count.ensures in
    record {
      sifted = sifts_on c.loop.numbers c.loop.count c.from-count.result _ _ _ (omega (arith, i.few, i.long, c.loop-test.true)) i.sifted c.advance.ensures more;
      few = (let one = at_most_one _ _ more in omega (arith, i.few, one));
      long = length-set c.loop.numbers c.loop.count _ ∙ i.long;
    }
