use Rattle.std.proofs.Common.{◌≡◌, ◌+◌}
use Rattle.motion_ring.specs.Ends.{left_in}
use Rattle.ring_speed.proofs.pieces.count_ticks.Given as goal

abbrev pub invariant-loop-tick : goal.invariant-loop-tick
invariant-loop-tick l = left_in l.into + l.tick ≡ l.ticks
