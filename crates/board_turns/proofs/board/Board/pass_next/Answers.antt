use Rattle.std.proofs.Common.{rules, ◌≡◌, subst}
use Rattle.line_interpreter.specs.Lefts.{IsTodo}
use Rattle.line_interpreter.specs.declared.tasks.Todo.{Todo}
use Rattle.line_interpreter.specs.declared.tasks.Todo.TheVariants as todo
use Rattle.board_turns.proofs.Resting.{rest_next, passed_even, passed_rest}
use Rattle.board_turns.proofs.board.Board.pass_next.Goals.{then-eq, else-eq}
use Rattle.board_turns.proofs.board.Board.pass_next.Goals as goal

pub returns-clause-passed : goal.returns-clause-passed
returns-clause-passed g c first h k stopped =
    let s = c.args.self.now in elim c.if-eq.branch [
      | then-eq w ↦
          let e : c.todo.result ≡ todo.Normal = search rules in
          passed_even first s c.if-eq.self _ c.done.new.self h k stopped (subst (λ (t : Todo). IsTodo t s.lines.left) e c.todo.ensures) w.even.ensures.runs w.self-is c.done.ensures
      | else-eq w ↦
          let other : c.todo.result ≡ todo.Normal → ⊥ = search rules in
          passed_rest first s c.if-eq.self c.done.new.self h k stopped (rest_next c.todo.result s.lines.left c.todo.ensures other c.requires.next) w.self-is c.done.ensures
    ]
