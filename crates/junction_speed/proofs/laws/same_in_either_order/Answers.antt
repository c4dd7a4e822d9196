use Rattle.junction_speed.proofs.Reversals.{junction_swapped}
use Rattle.junction_speed.proofs.laws.same_in_either_order.Goals as goal

pub returns : goal.returns
returns c = junction_swapped
