use Rattle.std.proofs.Common.{arith}
use Rattle.board_rules.proofs.Facts.{number_is}
use Rattle.board_turns.proofs.board.Board.last_line.Goals as goal

pub overflow_sub-result : goal.overflow_sub-result
overflow_sub-result g c =
    let r = c.requires in
    let is = number_is r.0 r.1 r.2.keeps.conducted in
    let number = r.2.keeps.lines.number_is in
    let same = c.number.ensures in
    omega (arith, is, number, same)

pub returns : goal.returns
returns g c = λ first h f.
    let is = number_is first h f.keeps.conducted in
    let number = f.keeps.lines.number_is in
    let same = c.number.ensures in
    omega (arith, is, number, same)
