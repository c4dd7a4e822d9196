use Rattle.board_rules.proofs.Locking.{locked_stands}
use Rattle.board_rules.proofs.Unlocking.{unlocks, told_before, asks_nothing}
use Rattle.board_rules.proofs.laws.machines_are_unlocked_by_lines.Goals as goal

pub returns-clause-stands : goal.returns-clause-stands
returns-clause-stands c = locked_stands

pub returns-clause-unlocked : goal.returns-clause-unlocked
returns-clause-unlocked c = unlocks

pub returns-clause-told : goal.returns-clause-told
returns-clause-told c = told_before

pub returns-clause-asks : goal.returns-clause-asks
returns-clause-asks c = asks_nothing
