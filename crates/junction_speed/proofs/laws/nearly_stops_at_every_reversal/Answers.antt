use Rattle.junction_speed.proofs.Reversals.{reversal_nearly_stops}
use Rattle.junction_speed.proofs.laws.nearly_stops_at_every_reversal.Goals as goal

pub returns : goal.returns
returns c = reversal_nearly_stops
