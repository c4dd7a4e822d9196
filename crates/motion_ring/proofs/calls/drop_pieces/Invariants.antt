use Rattle.std.proofs.Common.{◌≡◌, ◌+◌, ◌-◌, ◌%◌, List, length}
use Rattle.units.specs.Truths.{one_if}
use Rattle.step_line.specs.declared.Piece.{Piece}
use Rattle.motion_ring.specs.Ticks.{slots}
use Rattle.motion_ring.specs.Rule.{with_dropped, empty_slots}
use Rattle.motion_ring.proofs.calls.drop_pieces.Given as goal

abbrev pub invariant-loop-piece : goal.invariant-loop-piece
invariant-loop-piece l =
    ((ps : List Piece) × (l.seat.me ≡ (with_dropped l.fn.seat.me.0 ps, empty_slots (l.from - one_if l.fn.seat.me.0.busy) (one_if l.fn.seat.me.0.busy + length ps))) × (length ps + l.from ≡ l.piece))
    × (l.seat.table_id ≡ l.fn.seat.table_id) × (l.seat.id ≡ l.fn.seat.id) × (l.slot ≡ l.piece % slots)
