use Rattle.pulse_engine.proofs.Tried.{one_in_turn}
use Rattle.pulse_engine.proofs.tests.a_turn_does_one_thing_and_loses_nothing.Goals as goal

pub new-line-requires : goal.new-line-requires
new-line-requires g c = rw c.segment.ensures one_in_turn
