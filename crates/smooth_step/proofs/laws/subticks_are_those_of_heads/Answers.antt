use Rattle.smooth_step.proofs.Heads.{of_heads}
use Rattle.smooth_step.proofs.laws.subticks_are_those_of_heads.Goals as goal

pub returns : goal.returns
returns c = of_heads
