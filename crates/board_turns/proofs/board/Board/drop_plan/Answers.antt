use Rattle.board_journal.specs.Steps.{hand_of, given_of, plan_of, motion_of}
use Rattle.board_turns.proofs.Limiting.{halts_now}
use Rattle.board_turns.proofs.board.Board.drop_plan.Goals as goal

pub returns-clause-halted : goal.returns-clause-halted
returns-clause-halted g c = λ first h k at.
    let n = c.lock.ensures.locked first h k at in
    halts_now first c.lock.new.self c.clear.new.self c.done.new.self h n.0 n.1 n.2 (c.clear.ensures (plan_of n.0) (motion_of first n.0) (hand_of n.0) (given_of n.0) n.1.machine) c.done.ensures
