use Rattle.smooth_step.proofs.Tried.{one_in_turn}
use Rattle.smooth_step.proofs.pulse_tests.subticks_come_once_before_their_event.Goals as goal

pub new-line-requires : goal.new-line-requires
new-line-requires g c = rw c.segment.ensures one_in_turn
