use Rattle.board_turns.proofs.Adding.{has_added, adds_none}
use Rattle.board_turns.proofs.board.Board.add_moves.Goals as goal

pub returns-then-has_move_to_add-clause-added : goal.returns-then-has_move_to_add-clause-added
returns-then-has_move_to_add-clause-added g c = c.add_next_moves.ensures.added

pub returns-else-has_move_to_add-clause-added : goal.returns-else-has_move_to_add-clause-added
returns-else-has_move_to_add-clause-added g c first h k = (h, k, has_added first h h (adds_none first h) (c.has_move_to_add.ensures c.if-has_move_to_add.false first h k))
