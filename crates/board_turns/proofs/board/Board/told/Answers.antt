use Rattle.std.proofs.Common.{◌∙◌, ◌||◌, ◌∷◌, cond, drop, refl, sym, ap, subst}
use Rattle.status_report.specs.Answering.{is_answer, is_banner}
use Rattle.board_journal.specs.Ports.PortStep.{answered}
use Rattle.board_journal.specs.Steps.Step.{at_port}
use Rattle.board_turns.specs.declared.board.Board.{Board}
use Rattle.board_turns.specs.Boards.{Keeps}
use Rattle.board_turns.proofs.PortSteps.{told}
use Rattle.board_turns.proofs.board.Board.told.Goals as goal

pub returns-clause-told : goal.returns-clause-told
returns-clause-told g c = λ first h k next once plain unowed empty.
    let s = c.args.self.now in
    let one_less = c.done.ensures ∙ ap (λ (b : Board _). record b.lines { left = drop 1 b.lines.left }) c.keep_answered.ensures in
    subst (λ (b : Board _). Keeps first (record b { lines = c.done.new.self }) (at_port (answered c.args.reply) ∷ h)) (sym c.keep_answered.ensures)
    (told first s c.done.new.self (cond (is_answer c.args.reply) s.lines.state s.answered) (is_banner c.args.reply || s.greeted) c.args.reply h k next once plain unowed empty one_less refl refl)
