use Rattle.std.proofs.Common.{arith, ◌∷◌, sym, ◌∙◌}
use Rattle.board_journal.specs.Steps.Step.{closing}
use Rattle.board_turns.proofs.Steps.{closes}
use Rattle.board_turns.proofs.Nexts.{none_waiting, may_close, closes_worked}
use Rattle.board_turns.proofs.board.Board.close.Goals as goal

pub returns-clause-goes_on : goal.returns-clause-goes_on
returns-clause-goes_on g c = λ rest first h stands keeps polled closed.
    let s = c.args.self.now in
    let none = none_waiting first s h keeps (c.is_waiting.ensures.no c.if-is_waiting.false) in
    (closing ∷ h, stands, closes_worked first s _ h (closes first s _ h keeps (sym keeps.resetting_is ∙ c.requires.unreset) (may_close first h polled closed) c.close.ensures) polled none c.requires.unpublished c.requires.flags c.requires.flags)

pub run_waiting-requires : goal.run_waiting-requires
run_waiting-requires g c =
    let r = c.requires.stands in let first = r.1 in
    let waits = c.is_waiting.ensures.yes c.if-is_waiting.true in (
      omega arith,
      (
        (r.0, first, r.2, r.3, r.4, r.5),
        (
          waits.0,
          (
            waits.1,
            (
              c.requires.unpublished,
              c.requires.flags,
            ),
          ),
        ),
      ),
    )

pub returns-then-is_waiting-clause-goes_on : goal.returns-then-is_waiting-clause-goes_on
returns-then-is_waiting-clause-goes_on g c = λ rest first h stands keeps polled closed. c.run_waiting.ensures.goes_on rest first h stands keeps polled
