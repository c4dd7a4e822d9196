use Rattle.std.proofs.Common.{arith, rules}
use Rattle.board_turns.proofs.Nexts.{may_poll, whole_line}
use Rattle.board_turns.proofs.board.Board.next_line.Goals as goal

pub take_byte-requires : goal.take_byte-requires
take_byte-requires g c = (
  omega arith,
  (
    let r = c.requires.stands in let first = r.1 in
        (r.0, first, r.2, r.3, r.4, r.5, may_poll first c.args.self.now r.2 r.4 r.5 r.6 c.requires.none c.requires.«open» c.if-self.false),
    (
      search rules,
      (
        search rules,
        search rules,
      ),
    ),
  ),
)

pub returns-clause-goes_on : goal.returns-clause-goes_on
returns-clause-goes_on g c = λ rest first h stands k ready goes.
    c.take_byte.ensures.goes_on rest first h stands k ready (may_poll first c.args.self.now h k ready goes c.requires.none c.requires.«open» c.if-self.false)

pub begin_line-requires : goal.begin_line-requires
begin_line-requires g c = (
  omega arith,
  (
    let r = c.requires.stands in let first = r.1 in
        (r.0, first, r.2, r.3, r.4, r.5, whole_line first c.args.self.now r.2 r.4 r.6 c.requires.none c.requires.«open» c.if-self.true),
    (
      search rules,
      (
        search rules,
        search rules,
      ),
    ),
  ),
)

pub returns-then-self-clause-goes_on : goal.returns-then-self-clause-goes_on
returns-then-self-clause-goes_on g c = λ rest first h stands k ready goes.
    c.begin_line.ensures.goes_on rest first h stands k ready (whole_line first c.args.self.now h k goes c.requires.none c.requires.«open» c.if-self.true)
