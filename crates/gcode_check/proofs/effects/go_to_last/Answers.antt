use Rattle.gcode_check.proofs.Lasts.{last_is}
use Rattle.gcode_check.proofs.effects.go_to_last.Goals as goal

pub returns-in-len1-up-clause-last : goal.returns-in-len1-up-clause-last
returns-in-len1-up-clause-last c = last_is c.args.points.now c.args.at.now _ c.in-len1-up.len_at_least
