use Rattle.std.proofs.Common.{refl}
use Rattle.jog.proofs.Causes.{is_accepted}
use Rattle.jog.proofs.laws.jogs_begin_at_the_position.Goals as goal

pub returns : goal.returns
returns c = λ p s ws jog e. rw (← (is_accepted p s ws jog e).1) (refl, refl)
