use Rattle.epoch_law.proofs.Passing.{pieces_passed}
use Rattle.epoch_law.proofs.laws.rings_pass_pieces_so_far.Goals as goal

pub returns-clause-known : goal.returns-clause-known
returns-clause-known c = λ blocks state es p h k are fits ring. (pieces_passed blocks state es p h k are fits ring).known

pub returns-clause-within : goal.returns-clause-within
returns-clause-within c = λ blocks state es p h k are fits ring. (pieces_passed blocks state es p h k are fits ring).within

pub returns-clause-passed : goal.returns-clause-passed
returns-clause-passed c = λ blocks state es p h k are fits ring. (pieces_passed blocks state es p h k are fits ring).passed
