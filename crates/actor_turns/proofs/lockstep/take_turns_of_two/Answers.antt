use Rattle.std.proofs.Common.{arith, ◌≤◌, length, take}
use Rattle.actor_turns.proofs.Ending.{learned}
use Rattle.actor_turns.proofs.Resting.{is_low, left_on, turn_on, rest_on, rests_on}
use Rattle.actor_turns.proofs.lockstep.take_turns_of_two.Goals as goal

pub loop-number-preserved : goal.loop-number-preserved
loop-number-preserved g c =
    let i = c.loop-number.invariant in
    let low = is_low _ _ _ _ c.loop-number-test.true i.left in
    let turn = c.turn_sender-turn.ensures in
    record {
      so_far = λ seed before w steps was.
          turn_on _ _ _ _ _ _ _ _ _ _ _ _ _ c.loop-number-test.true i.left i.rests c.sender-actor.ensures (turn.goes_on steps) (i.so_far seed before w steps was);
      ended = λ was.
          learned _ _ _ _ _ _ c.learn.ensures.done c.learn.ensures.same turn.done turn.alone turn.still (i.ended was);
      rests = rests_on _ _ _ (rw c.sender-actor.ensures low) turn.alone (c.offers_nothing.ensures.0 c.if-not-offers_nothing.false) i.rests;
      left = left_on _ _ _ _ c.loop-number-test.true i.left;
    }

pub returns-then-learn-clause-goes_on : goal.returns-then-learn-clause-goes_on
returns-then-learn-clause-goes_on g c = λ seed before w steps was.
    let i = c.loop-number.invariant in
    turn_on _ _ _ _ _ _ _ _ _ _ _ _ _ c.loop-number-test.true i.left i.rests c.sender-actor.ensures (c.turn_sender-turn.ensures.goes_on steps) (i.so_far seed before w steps was)

pub returns-then-not-offers_nothing-clause-goes_on : goal.returns-then-not-offers_nothing-clause-goes_on
returns-then-not-offers_nothing-clause-goes_on g c = λ seed before w steps was.
    let i = c.loop-number.invariant in
    turn_on _ _ _ _ _ _ _ _ _ _ _ _ _ c.loop-number-test.true i.left i.rests c.sender-actor.ensures (c.turn_sender-turn.ensures.goes_on steps) (i.so_far seed before w steps was)

pub returns-clause-goes_on : goal.returns-clause-goes_on
returns-clause-goes_on g c = λ seed before w steps was.
    let i = c.loop-number.invariant in
    let chosen = take c.sift-count.result c.sift-count.new.numbers in
    let over : length chosen ≤ c.loop-number.number-index = omega (arith, c.loop-number-test.false) in
    rest_on _ _ _ chosen c.loop-number.number-index _ _ _ _ over i.left i.rests (i.so_far seed before w steps was)
