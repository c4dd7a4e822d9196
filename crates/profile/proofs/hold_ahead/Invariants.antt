use Rattle.std.proofs.Common.{◌≡◌, ◌+◌, ◌<◌, ℕ, List, length}
use Rattle.profile.specs.Settled.{IsPlannedTo}
use Rattle.profile.proofs.Passes.{IsBackTo}
use Rattle.profile.proofs.hold_ahead.Given as goal

abbrev pub invariant-loop-i : goal.invariant-loop-i
invariant-loop-i l = record {
  points : length l.speeds ≡ length l.gaps + 1;
  before : l.own < length l.gaps;
  low : l.from < l.i;
  back : (caps : List ℕ) → IsPlannedTo l.gaps caps l.from l.fn.speeds → IsBackTo l.gaps caps l.from l.i l.own l.speeds;
}
