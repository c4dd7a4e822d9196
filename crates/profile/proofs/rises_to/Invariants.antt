use Rattle.std.proofs.Common.{◌≡◌, ◌+◌, ◌≤◌, ◌<◌, ℕ, get_or}
use Rattle.profile.proofs.rises_to.Given as goal

abbrev pub invariant-loop-i : goal.invariant-loop-i
invariant-loop-i l = (k : ℕ) → l.from ≤ k → k < l.i → get_or l.speeds (k + 1) 0 ≡ get_or l.speeds k 0 + get_or l.gaps k 0
