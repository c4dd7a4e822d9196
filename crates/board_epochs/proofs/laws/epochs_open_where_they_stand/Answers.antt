use Rattle.std.proofs.Common.{refl}
use Rattle.board_journal.specs.Steps.{motion_of}
use Rattle.board_epochs.proofs.Opening.{blocks_behind, opens, opens_on, placed, locks}
use Rattle.board_epochs.proofs.laws.epochs_open_where_they_stand.Goals as goal

pub returns-clause-opens : goal.returns-clause-opens
returns-clause-opens c = opens

pub returns-clause-next : goal.returns-clause-next
returns-clause-next c = opens_on

pub returns-clause-placed : goal.returns-clause-placed
returns-clause-placed c = placed

pub returns-clause-plan : goal.returns-clause-plan
returns-clause-plan c = refl

pub returns-clause-blocks : goal.returns-clause-blocks
returns-clause-blocks c = blocks_behind

pub returns-clause-settings : goal.returns-clause-settings
returns-clause-settings c = λ base first h w. refl

pub returns-clause-modes : goal.returns-clause-modes
returns-clause-modes c = λ base first h w. (refl, refl, refl, refl)

pub returns-clause-offsets : goal.returns-clause-offsets
returns-clause-offsets c = λ base first h w. refl

pub returns-clause-locked : goal.returns-clause-locked
returns-clause-locked c = λ base first h w other. locks (motion_of first h) other

pub returns-clause-numbers : goal.returns-clause-numbers
returns-clause-numbers c = λ base first h w. (refl, refl)
