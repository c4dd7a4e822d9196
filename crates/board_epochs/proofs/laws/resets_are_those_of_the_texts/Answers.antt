use Rattle.std.proofs.Common.{refl}
use Rattle.board_epochs.proofs.Texts.{point_there, number_is_last}
use Rattle.board_epochs.proofs.laws.resets_are_those_of_the_texts.Goals as goal

pub returns-clause-told : goal.returns-clause-told
returns-clause-told c = λ base first h w. refl

pub returns-clause-point : goal.returns-clause-point
returns-clause-point c = point_there

pub returns-clause-begins : goal.returns-clause-begins
returns-clause-begins c = λ blocks state. refl

pub returns-clause-number : goal.returns-clause-number
returns-clause-number c = number_is_last

pub returns-clause-locks : goal.returns-clause-locks
returns-clause-locks c = λ base first h w. refl
