use Rattle.std.proofs.Common.{◌∷◌, sym, subst, arith}
use Rattle.board_journal.specs.Ports.{MayBeDone}
use Rattle.board_journal.specs.Ports.PortStep.{loaded}
use Rattle.reset_work.specs.declared.tests.Tape.{Tape}
use Rattle.reset_work.specs.Tapes.{IsTape}
use Rattle.reset_work.proofs.Taped.{later_done, may_be_done}
use Rattle.reset_work.proofs.tests.TapeBoardPort.done.Goals as goal

pub returns-clause-done : goal.returns-clause-done
returns-clause-done c rest l t =
    let s = c.args.self.now in
    let below = t.below in
    subst (λ (n : Tape). IsTape 3 n.left n.ticks n.ticks (loaded n.ticks ∷ l)) (sym c.is_late.ensures) (later_done 3 s.left s.ticks s.done s.ticks l below (omega arith) t)

pub returns-clause-known : goal.returns-clause-known
returns-clause-known c rest l t =
    let s = c.args.self.now in
    let below = t.below in
    subst (λ (n : Tape). MayBeDone n.ticks l) (sym c.is_late.ensures) (may_be_done 3 s.left s.ticks s.done s.ticks l below (omega arith) t)
