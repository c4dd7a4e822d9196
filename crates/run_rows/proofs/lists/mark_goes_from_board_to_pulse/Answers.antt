use Rattle.std.proofs.Common.{◌<◌, length, [], ◌∷◌, refl, sym, subst, arith}
use Rattle.step_line.specs.declared.Piece.{Piece}
use Rattle.step_line.specs.declared.Piece.TheVariants as pieces
use Rattle.step_line.specs.declared.Mark.TheVariants.{Dwell}
use Rattle.step_line.specs.Pieces.{ticks_of}
use Rattle.board_journal.specs.Ports.{MayPublish}
use Rattle.board_journal.specs.Ports.PortStep.{published}
use Rattle.pulse_engine.specs.Logs.PieceEvent.{got}
use Rattle.run_rows.proofs.lists.mark_goes_from_board_to_pulse.Goals as goal

first_may : MayPublish [] (pieces.Mark (Dwell 1))
first_may = record { running = refl; going = refl; follows = omega arith; few = omega arith; room = omega arith }

pub publish-requires : goal.publish-requires
publish-requires g c = (omega arith, (([], []), [], c.fresh-lists.ensures, first_may))

pub piece-requires : goal.piece-requires
piece-requires g c = (omega arith, (([], published (pieces.Mark (Dwell 1)) ∷ []), [], c.in-Ok.ensures.ok ([], []) [] c.fresh-lists.ensures first_may, refl))

pub tick_done-requires : goal.tick_done-requires
tick_done-requires g c =
    let j = c.in-Ok.ensures.ok ([], []) [] c.fresh-lists.ensures first_may in
    let q = c.in-Some.ensures.some ([], published (pieces.Mark (Dwell 1)) ∷ []) [] j refl in
    let more : 0 < length (ticks_of c.in-Some.piece) = subst (λ (p : Piece). 0 < length (ticks_of p)) (sym c.in-Mark.is) (omega arith) in
    (omega arith, (([], published (pieces.Mark (Dwell 1)) ∷ []), got c.in-Some.piece ∷ [], q, more))
