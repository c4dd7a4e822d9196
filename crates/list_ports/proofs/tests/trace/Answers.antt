use Rattle.std.proofs.Common.{◌≡◌, ◌<◌, ◌-◌, ◌∷◌, length, sym, subst, arith}
use Rattle.step_line.specs.declared.Piece.{Piece}
use Rattle.step_line.specs.Pieces.{ticks_of}
use Rattle.pulse_engine.specs.Logs.PieceEvent.{got, ticked}
use Rattle.list_ports.proofs.tests.trace.Goals as goal

pub piece-requires : goal.piece-requires
piece-requires c = let q = c.requires in (omega arith, ((q.host, q.board), q.pulse, q.joined, q.counted))

pub tick_done-requires : goal.tick_done-requires
tick_done-requires c =
    let q = c.requires in
    let j = c.in-Some.ensures.some (q.host, q.board) q.pulse q.joined q.counted in
    let more : 0 < length (ticks_of c.in-Some.piece) = subst (λ (p : Piece). 0 < length (ticks_of p)) (sym c.in-Mark.is) (omega arith) in
    (omega arith, ((q.host, q.board), got c.in-Some.piece ∷ q.pulse, j, more))

pub returns-in-Mark : goal.returns-in-Mark
returns-in-Mark c = λ is.
    let q = c.requires in
    let j = c.in-Some.ensures.some (q.host, q.board) q.pulse q.joined q.counted in
    let more : 0 < length (ticks_of c.in-Some.piece) = subst (λ (p : Piece). 0 < length (ticks_of p)) (sym c.in-Mark.is) (omega arith) in
    let none : length (ticks_of c.in-Some.piece) - 1 ≡ 0 = subst (λ (p : Piece). length (ticks_of p) - 1 ≡ 0) (sym c.in-Mark.is) (omega arith) in
    record {
      host = q.host;
      board = q.board;
      pulse = ticked ∷ (got c.in-Some.piece ∷ q.pulse);
      joined = c.tick_done.ensures (q.host, q.board) (got c.in-Some.piece ∷ q.pulse) j more;
      running = q.running;
      going = q.going;
      few = q.few;
      many = q.many;
      counted = none;
    }
