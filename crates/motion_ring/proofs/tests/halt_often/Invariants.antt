use Rattle.std.proofs.Common.{◌≡◌}
use Rattle.motion_ring.specs.Ends.{left_in}
use Rattle.motion_ring.proofs.tests.halt_often.Given as goal

abbrev pub invariant-loop : goal.invariant-loop
invariant-loop g l = left_in l.into ≡ l.left
