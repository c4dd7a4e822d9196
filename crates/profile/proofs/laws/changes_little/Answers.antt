use Rattle.profile.proofs.Slowing.{gone_near, gone_below}
use Rattle.profile.proofs.laws.changes_little.Goals as goal

pub returns : goal.returns
returns c = record {
  near = gone_near;
  below = gone_below;
}
