use Rattle.legal_heads.proofs.Telling.{events_front}
use Rattle.legal_heads.proofs.laws.events_are_those_of_the_moves.Goals as goal

pub returns : goal.returns
returns c = events_front
