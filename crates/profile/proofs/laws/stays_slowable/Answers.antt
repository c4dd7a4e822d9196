use Rattle.profile.proofs.Slowing.{slow_cleared, slow_first, slow_added, slow_gone, slow_holding, slow_dropped, slow_ended}
use Rattle.profile.proofs.laws.stays_slowable.Goals as goal

pub returns : goal.returns
returns c = record {
  cleared = slow_cleared;
  first = slow_first;
  added = slow_added;
  after_go = slow_gone;
  after_hold = slow_holding;
  dropped = slow_dropped;
  ended = slow_ended;
}
