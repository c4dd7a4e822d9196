use Rattle.command_line.proofs.Numbers.{parsed}
use Rattle.command_line.proofs.matches_of.Goals as goal

pub returns-clause-sound : goal.returns-clause-sound
returns-clause-sound c = parsed _ _ _ c.in_ok-command_line.ensures c.in_ok-try_get_matches_from.ensures.kinds c.in_ok-try_get_matches_from.ensures.matches
