use Rattle.board_rules.proofs.Waiting.{adds, starts, one_line, few_waits}
use Rattle.board_rules.proofs.Taking.{no_jog_waits}
use Rattle.board_rules.proofs.laws.boards_keep_the_pulse_busy.Goals as goal

pub returns-clause-adds : goal.returns-clause-adds
returns-clause-adds c = adds

pub returns-clause-starts : goal.returns-clause-starts
returns-clause-starts c = starts

pub returns-clause-jogs : goal.returns-clause-jogs
returns-clause-jogs c = no_jog_waits

pub returns-clause-lines : goal.returns-clause-lines
returns-clause-lines c = one_line

pub returns-clause-waits : goal.returns-clause-waits
returns-clause-waits c = few_waits
