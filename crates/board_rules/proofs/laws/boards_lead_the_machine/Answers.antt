use Rattle.board_rules.proofs.Placing.{next_begins, within_segment}
use Rattle.board_rules.proofs.laws.boards_lead_the_machine.Goals as goal

pub returns-clause-next : goal.returns-clause-next
returns-clause-next c = λ first h p opens conducted. next_begins first h opens conducted p

pub returns-clause-within : goal.returns-clause-within
returns-clause-within c = λ first h early late s j opens conducted. within_segment first h opens conducted early late s j
