use Rattle.profile.proofs.Kept.{kept_within_reach, go_reaches, dropped_keeps}
use Rattle.profile.proofs.laws.stays_planned.Goals as goal

pub returns : goal.returns
returns c = record { within_reach = kept_within_reach; after_go = go_reaches; dropped = dropped_keeps }
