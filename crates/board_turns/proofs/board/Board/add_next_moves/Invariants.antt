use Rattle.std.proofs.Common.{◌≡◌, length}
use Rattle.board_journal.specs.Openings.{Opening}
use Rattle.board_journal.specs.Steps.{Journal}
use Rattle.board_turns.specs.Boards.{Keeps}
use Rattle.board_turns.proofs.Adding.{Adds}
use Rattle.board_turns.proofs.board.Board.add_next_moves.Given as goal

abbrev pub invariant-loop-self : goal.invariant-loop-self
invariant-loop-self g l =
    ((first : Opening) (h : Journal) → Keeps first l.fn.self h → (mid : Journal) × Keeps first l.self mid × Adds first h mid) × (l.self ≡ record l.fn.self { machine = l.self.machine; lines = l.self.lines })

abbrev pub decreases-loop-self : goal.decreases-loop-self
decreases-loop-self g l = length l.self.lines.left
