use Rattle.board_rules.proofs.Waiting.{one_cause, pieces_lack_room, reply_is_next}
use Rattle.board_rules.proofs.laws.boards_wait_for_a_cause.Goals as goal

pub returns-clause-byte : goal.returns-clause-byte
returns-clause-byte c = λ first h conducted. (conducted.0.cause.free, conducted.0.cause.partial, conducted.0.cause.unowed)

pub returns-clause-reply_room : goal.returns-clause-reply_room
returns-clause-reply_room c = λ first h conducted. reply_is_next first h conducted.1 conducted.0.cause conducted.0.still

pub returns-clause-report : goal.returns-clause-report
returns-clause-report c = λ first h o conducted. conducted.0.unowed

pub returns-clause-segment_room : goal.returns-clause-segment_room
returns-clause-segment_room c = λ first h conducted. pieces_lack_room first h conducted.1 conducted.0.cause conducted.0.still

pub returns-clause-motion : goal.returns-clause-motion
returns-clause-motion c = λ first h conducted. (conducted.0.cause.undone, conducted.0.cause.awaits)

pub returns-clause-resume : goal.returns-clause-resume
returns-clause-resume c = λ first h conducted. (conducted.0.cause.held, conducted.0.cause.held_up)

pub returns-clause-unasked : goal.returns-clause-unasked
returns-clause-unasked c = λ first h conducted. conducted.0.cause.unasked

pub returns-clause-causes : goal.returns-clause-causes
returns-clause-causes c = λ first h o conducted. one_cause first o h conducted.0.cause
