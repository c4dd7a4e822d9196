use Rattle.std.proofs.Common.{arith, ◌∷◌, refl, sym, ap, subst}
use Rattle.outside.specs.declared.Turn.{Turn}
use Rattle.board_journal.specs.Steps.Step.{turned}
use Rattle.board_turns.specs.declared.board.Board.{Board}
use Rattle.board_turns.specs.Boards.{EpochFits, GoingTurned}
use Rattle.board_turns.specs.Turning.{words_awaited}
use Rattle.board_turns.proofs.Turned.{flags_behind, turned_by, no_wait_keeps}
use Rattle.board_turns.proofs.Numbers.{number_few}
use Rattle.board_turns.proofs.Resetting.{begins_going}
use Rattle.board_turns.proofs.board.Board.turn.Goals as goal

pub returns-in-Wait-clause-goes_on : goal.returns-in-Wait-clause-goes_on
returns-in-Wait-clause-goes_on g c = λ rest first h stands f between unready.
    let n = c.work-turn.ensures.goes_on rest first h stands (begins_going first c.args.self.now h f unready) between in
    let t = c.work-turn.result in
    let board = c.work-turn.new.self in
    let r = turned_by first t c.args.self.now board (words_awaited board.greeted board.flags) h n.0 (ap (λ (x : Turn). flags_behind x board.greeted board.flags) c.in-Wait.is) n.2 in
    let is = sym c.await_words.ensures in (
      turned t ∷ n.0,
      n.1,
      subst (λ (b : Board _). EpochFits first b (turned t ∷ n.0)) is r.0,
      refl,
      subst (λ (b : Board _). GoingTurned first t c.args.self.now b h (turned t ∷ n.0)) is r.1,
    )

pub returns-in_default : goal.returns-in_default
returns-in_default g c = record {
  goes_on = λ rest first h stands f between unready.
      (let n = c.work-turn.ensures.goes_on rest first h stands (begins_going first c.args.self.now h f unready) between in
      let t = c.work-turn.result in
      let board = c.work-turn.new.self in
      let r = turned_by first t c.args.self.now board board.flags h n.0 (no_wait_keeps t board.greeted board.flags c.in_default.not-Wait) n.2 in
      (turned t ∷ n.0, n.1, r.0, refl, r.1));
  done = c.work-turn.ensures.done;
  still = c.work-turn.ensures.still;
  few = λ first. number_few first c.args.self.now;
}

pub returns-in-Wait-clause-few : goal.returns-in-Wait-clause-few
returns-in-Wait-clause-few g c = λ first. number_few first c.args.self.now

pub work-turn-requires : goal.work-turn-requires
work-turn-requires g c =
    let r = c.requires.stands in let first = r.1 in (
      omega arith,
      (r.0, first, r.2, r.3, begins_going first c.args.self.now r.2 r.4 r.6, r.5),
    )
