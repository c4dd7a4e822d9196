use Rattle.board_journal.specs.Steps.{hand_of, given_of, plan_of, motion_of}
use Rattle.board_turns.proofs.Telling.{obeys_waiting}
use Rattle.board_turns.proofs.board.Board.obey_waiting.Goals as goal

pub returns-in-Some-clause-goes_on : goal.returns-in-Some-clause-goes_on
returns-in-Some-clause-goes_on g c first h k may =
    obeys_waiting first c.args.self.now c.obey.new.self c.args.word c.in-Some.word h c.in-Some.is k may (c.obey.ensures (plan_of h) (motion_of first h) (hand_of h) (given_of h) k.machine)
