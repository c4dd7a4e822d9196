use Rattle.std.proofs.Common.{◌≡◌, ◌+◌, ℕ, List, length}
use Rattle.profile.specs.Settled.{IsHeldTo}
use Rattle.profile.proofs.hold_behind.Given as goal

abbrev pub invariant-loop-i : goal.invariant-loop-i
invariant-loop-i l = record {
  points : length l.speeds ≡ length l.gaps + 1;
  held : (caps : List ℕ) → IsHeldTo l.gaps caps l.from l.fn.speeds → IsHeldTo l.gaps caps l.i l.speeds;
}
