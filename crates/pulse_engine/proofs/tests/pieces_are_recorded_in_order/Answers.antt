use Rattle.pulse_engine.proofs.Tried.{four_in_turn}
use Rattle.pulse_engine.proofs.tests.pieces_are_recorded_in_order.Goals as goal

pub new-line-requires : goal.new-line-requires
new-line-requires g c = rw (c.segment.ensures, c.segment-2.ensures) four_in_turn
