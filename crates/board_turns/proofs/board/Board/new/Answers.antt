use Rattle.std.proofs.Common.{◌-◌, sym, ap, refl, arith}
use Rattle.modal_state.specs.declared.Parser.{Parser}
use Rattle.board_journal.specs.Openings.{IsPlanSize, first_opening}
use Rattle.board_rules.specs.Conduct.{MayOpen}
use Rattle.board_turns.proofs.Opening.{opens_epoch}
use Rattle.board_turns.proofs.board.Board.new.Goals as goal

pub returns : goal.returns
returns g c =
    let state = c.new-lines.result.state in
    let sized : IsPlanSize (g.row.N - 1) = (omega (arith, c.requires), omega (arith, c.requires)) in
    let opens : MayOpen (first_opening (g.row.N - 1) state) =
    record { stands = refl; greets = (record { answers = refl; reports = refl; parts = refl }, tt); banner = refl; few = omega arith; sized = sized } in (
      state,
      c.new-lines.ensures.opening,
      opens_epoch (first_opening (g.row.N - 1) state) c.new.result c.new-2.result c.new-lines.result c.new-3.result c.behind-answered.result (sym (ap (λ (p : Parser). p.pos_steps) c.new-lines.ensures.opening.parser)) refl opens (omega arith) c.new.ensures
          (record { left_is = c.new-lines.ensures.left; state_is = refl; number_is = c.new-lines.ensures.number }) c.new-3.ensures c.new-2.ensures c.behind-answered.ensures,
    )
