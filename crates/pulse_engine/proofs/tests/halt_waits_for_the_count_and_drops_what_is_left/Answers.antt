use Rattle.pulse_engine.proofs.Tried.{three_in_turn}
use Rattle.pulse_engine.proofs.tests.halt_waits_for_the_count_and_drops_what_is_left.Goals as goal

pub new-line-requires : goal.new-line-requires
new-line-requires g c = rw c.segment.ensures three_in_turn
