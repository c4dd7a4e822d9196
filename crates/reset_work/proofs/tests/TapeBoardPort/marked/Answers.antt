use Rattle.std.proofs.Common.{◌∷◌, sym, subst, arith}
use Rattle.board_journal.specs.Ports.PortStep.{found_mark}
use Rattle.reset_work.specs.declared.tests.Tape.{Tape}
use Rattle.reset_work.specs.Tapes.{IsTape}
use Rattle.reset_work.proofs.Taped.{marks}
use Rattle.reset_work.proofs.tests.TapeBoardPort.marked.Goals as goal

pub returns-then-is_late : goal.returns-then-is_late
returns-then-is_late c rest l t =
    let s = c.args.self.now in
    subst (λ (n : Tape). IsTape 3 n.left n.ticks n.done (found_mark 0 0 ∷ l)) (sym c.is_late.ensures) (marks 3 s.left s.ticks s.done 0 0 l (omega arith) t)

pub returns : goal.returns
returns c rest l t =
    let s = c.args.self.now in
    subst (λ (n : Tape). IsTape 3 n.left n.ticks n.done (found_mark 1 3 ∷ l)) (sym c.is_late.ensures) (marks 3 s.left s.ticks s.done 1 3 l (omega arith) t)
