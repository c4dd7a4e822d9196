use Rattle.profile.proofs.Settling.{settled_first, added_keeps, added_settled, settled_within_reach, settled_dropped}
use Rattle.profile.proofs.laws.settled_points.Goals as goal

pub returns : goal.returns
returns c = record {
  first = settled_first;
  keeps = added_keeps;
  added = added_settled;
  within_reach = settled_within_reach;
  dropped = settled_dropped;
}
