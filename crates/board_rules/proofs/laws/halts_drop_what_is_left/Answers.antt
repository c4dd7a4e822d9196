use Rattle.board_rules.proofs.Alarms.{halted_alarmed, halted_stands, free_halted}
use Rattle.board_rules.proofs.Halts.{halted_part, halted_known, frozen}
use Rattle.board_rules.proofs.laws.halts_drop_what_is_left.Goals as goal

pub returns-clause-part : goal.returns-clause-part
returns-clause-part c = halted_part

pub returns-clause-stands : goal.returns-clause-stands
returns-clause-stands c = λ first h conducted was. let is = halted_stands first h conducted was in (is.0, is.1, halted_known first h conducted was)

pub returns-clause-alarmed : goal.returns-clause-alarmed
returns-clause-alarmed c = halted_alarmed

pub returns-clause-behind : goal.returns-clause-behind
returns-clause-behind c = frozen

pub returns-clause-over : goal.returns-clause-over
returns-clause-over c = λ first h conducted finished one. free_halted first h conducted one finished.left
