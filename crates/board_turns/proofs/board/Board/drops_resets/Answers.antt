use Rattle.std.proofs.Common.{◌||◌, sym, ap, ◌∙◌}
use Rattle.board_turns.proofs.Resetting.{drops_by}
use Rattle.board_turns.proofs.board.Board.drops_resets.Goals as goal

pub returns-then-self : goal.returns-then-self
returns-then-self g c = λ first h k. c.if-self.true ∙ ap (λ b. b || c.args.self.now.alarmed) (sym c.if-self.true) ∙ drops_by first c.args.self.now h k

pub returns-else-self : goal.returns-else-self
returns-else-self g c = λ first h k. ap (λ b. b || c.args.self.now.alarmed) (sym c.if-self.false) ∙ drops_by first c.args.self.now h k
