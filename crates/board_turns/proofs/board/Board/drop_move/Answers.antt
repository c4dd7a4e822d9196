use Rattle.std.proofs.Common.{ap, ◌∙◌, subst}
use Rattle.line_interpreter.specs.Interpreting.{Interpreting}
use Rattle.line_interpreter.specs.Lefts.{IsTodo}
use Rattle.board_turns.proofs.Stopping.{dropped_next, dropped_none}
use Rattle.board_turns.proofs.board.Board.drop_move.Goals as goal

pub returns-in-Move-clause-left : goal.returns-in-Move-clause-left
returns-in-Move-clause-left g c first h k cancelled =
    ap (λ (i : Interpreting). i.left) c.done.ensures ∙ dropped_next first c.args.self.now h k cancelled (subst (λ t. IsTodo t c.args.self.now.lines.left) c.in-Move.is c.todo.ensures)

pub returns-in_default-clause-left : goal.returns-in_default-clause-left
returns-in_default-clause-left g c first h k cancelled = dropped_none first c.args.self.now c.todo.result h k cancelled c.in_default.not-Move c.todo.ensures
