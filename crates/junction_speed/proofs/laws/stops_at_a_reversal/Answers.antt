use Rattle.junction_speed.proofs.Reversals.{reversal_stops}
use Rattle.junction_speed.proofs.laws.stops_at_a_reversal.Goals as goal

pub returns : goal.returns
returns c = reversal_stops
