use Rattle.feed_hold.proofs.Reaching.{reached}
use Rattle.feed_hold.proofs.laws.states_are_reached.Goals as goal

pub returns : goal.returns
returns c = reached
