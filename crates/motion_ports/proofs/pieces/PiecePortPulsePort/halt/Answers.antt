use Rattle.std.proofs.Common.{◌≡◌, ◌+◌, ◌∷◌, ◌++◌, List, length, map, ap, ◌∙◌, arith, length-append}
use Rattle.step_line.specs.declared.Piece.{Piece}
use Rattle.motion_ring.specs.Sides.{passed_in}
use Rattle.motion_ring.specs.Ends.{taken_by}
use Rattle.motion_ring.proofs.Sides.{halted_pieces}
use Rattle.pulse_engine.specs.Logs.{pieces_of}
use Rattle.motion_ports.specs.Ports.{numbers_of}
use Rattle.motion_ports.proofs.pieces.PiecePortPulsePort.halt.Goals as goal

pub returns : goal.returns
returns c rest h got saw =
    let t = c.halt.ensures.halted in
    let was = taken_by c.args.self.now.end in
    let all = length-append t.0 (pieces_of h) in
    let e = ap length got.passed_are in
    let number : length t.0 + length (passed_in was) ≡ length (t.0 ++ pieces_of h) = omega arith in
    let whole = c.halt.ensures.whole in (
      t.0,
      record {
        ring_is = c.halt.ensures.ring ∙ got.ring_is;
        passed_are = ap passed_in t.1 ∙ (halted_pieces t.0 was.fresh was.left was.past ∙ ap (λ (l : List Piece). t.0 ++ l) got.passed_are);
        fresh_are = ap (λ x. x.fresh) t.1;
        counted_are = ap (λ x. x.counted) t.1 ∙ got.counted_are;
        left_are = ap (λ x. x.left) t.1;
        halts_are = ap (λ x. map numbers_of x.halts) t.1 ∙ (λ i. (number i, got.counted_are i) ∷ got.halts_are i);
        looks = c.halt.ensures.loads.0 ∙ got.looks;
        saw_pieces = tt;
        asks = c.halt.ensures.loads.1 ∙ got.asks;
        saw_stop_is = (λ e. absurd cc, λ lt. absurd (omega arith));
      },
    )
