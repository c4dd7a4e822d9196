use Rattle.motion_pulse.proofs.Heads.{by_heads}
use Rattle.motion_pulse.proofs.laws.pins_are_those_of_heads.Goals as goal

pub returns : goal.returns
returns c = by_heads c.subticks_are_those_of_heads.ensures
