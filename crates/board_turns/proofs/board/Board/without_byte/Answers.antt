use Rattle.std.proofs.Common.{arith}
use Rattle.board_turns.proofs.Nexts.{none_waiting, waits_for_byte}
use Rattle.board_turns.proofs.board.Board.without_byte.Goals as goal

pub returns-then-not-is_waiting-clause-goes_on : goal.returns-then-not-is_waiting-clause-goes_on
returns-then-not-is_waiting-clause-goes_on g c = λ rest first h stands keeps polled found.
    let s = c.args.self.now in
    (h, stands, waits_for_byte first s.flags s h keeps polled found (none_waiting first s h keeps (c.is_waiting.ensures.no c.if-not-is_waiting.true)) c.requires.unpublished c.requires.flags)

pub run_waiting-requires : goal.run_waiting-requires
run_waiting-requires g c =
    let waits = c.is_waiting.ensures.yes c.if-not-is_waiting.false in (
      omega arith,
      (
        c.requires.stands,
        (
          waits.0,
          (
            waits.1,
            (
              c.requires.unpublished,
              c.requires.flags,
            ),
          ),
        ),
      ),
    )

pub returns-clause-goes_on : goal.returns-clause-goes_on
returns-clause-goes_on g c = λ rest first h stands keeps polled found. c.run_waiting.ensures.goes_on rest first h stands keeps polled
