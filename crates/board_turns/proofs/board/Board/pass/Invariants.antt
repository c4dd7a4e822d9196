use Rattle.std.proofs.Common.{◌≡◌, true, length}
use Rattle.board_journal.specs.Openings.{Opening}
use Rattle.board_journal.specs.Steps.{Journal}
use Rattle.board_turns.specs.Boards.{Keeps}
use Rattle.board_turns.specs.Turning.{HasStopped, DidAlone}
use Rattle.board_turns.proofs.board.Board.pass.Given as goal

abbrev pub invariant-loop-self : goal.invariant-loop-self
invariant-loop-self g l = record {
  passed : (first : Opening) (h : Journal) → Keeps first l.fn.self h → HasStopped first h → (next : Journal) × Keeps first l.self next × HasStopped first next × DidAlone first h next;
  same : l.self ≡ record l.fn.self { machine = l.self.machine; lines = l.self.lines };
  closing : (first : Opening) (h : Journal) → Keeps first l.fn.self h → l.fn.self.closing ≡ true → l.self ≡ l.fn.self;
}

abbrev pub decreases-loop-self : goal.decreases-loop-self
decreases-loop-self g l = length l.self.lines.left
