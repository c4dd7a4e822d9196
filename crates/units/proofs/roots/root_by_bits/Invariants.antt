use Rattle.std.proofs.Common.{◌+◌, ◌*◌, ◌^◌, ◌<◌, ◌≤◌}
use Rattle.units.proofs.roots.root_by_bits.Given as goal

-- the root is found but for its lowest places
abbrev pub invariant-loop-place : goal.invariant-loop-place
invariant-loop-place l = record {
  low : l.root * l.root ≤ l.x;
  high : l.x < (l.root + 2 ^ l.place) * (l.root + 2 ^ l.place);
  fits : l.root + 2 ^ l.place ≤ 2 ^ 64;
}
