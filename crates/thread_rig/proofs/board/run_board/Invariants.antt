use Rattle.thread_rig.specs.declared.board.BoardSide.{BoardSide}
use Rattle.thread_rig.specs.BoardSides.{BoardRunsAt}
use Rattle.thread_rig.proofs.board.run_board.Given as goal

abbrev pub invariant-loop : goal.invariant-loop
invariant-loop g l = (before : BoardSide g.row.RX g.row.N) → BoardRunsAt before l.fn.side → BoardRunsAt before l.side
