use Rattle.std.proofs.Common.{◌+◌, ◌*◌, ◌^◌, ◌<◌}
use Rattle.units.proofs.roots.root_near.Given as goal

-- no less than the root
abbrev pub invariant-loop-root : goal.invariant-loop-root
invariant-loop-root l = (l.fn.x < (l.root + 1) * (l.root + 1)) × (0 < l.root) × (l.root < 2 ^ 62)

abbrev pub decreases-loop-root : goal.decreases-loop-root
decreases-loop-root l = l.root
