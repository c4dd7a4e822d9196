use Rattle.std.proofs.Common.{◌≡◌, ◌+◌, ◌-◌, ◌%◌, ◌++◌, None, [], ◌∷◌, suc, ℕ, length, sym, ap, ◌∙◌, arith}
use Rattle.units.specs.Truths.{one_if}
use Rattle.motion_ring.specs.Rule.{with_dropped, skipped_piece, empty_slots}
use Rattle.motion_ring.proofs.Getting.{slots_next}
use Rattle.motion_ring.proofs.calls.drop_pieces.Goals as goal

pub loop-piece-preserved : goal.loop-piece-preserved
loop-piece-preserved c =
    let i = c.loop-piece.invariant in
    let r = c.requires.may in
    let d = c.drop_piece.ensures.dropped in
    let v = c.args.seat.now.me.0 in
    let first : ℕ = c.args.from - one_if v.busy in
    let n : ℕ = one_if v.busy + length i.0.0 in
    let len = i.0.2 in
    let held = r.held in
    let sum : c.loop-piece.piece ≡ first + n = omega arith in
    let at : c.loop-piece.slot ≡ (first + n) % 6 = i.3 ∙ ap (λ z. z % 6) sum in
    let now : c.drop_piece.new.seat.me ≡ (skipped_piece c.loop-piece.seat.me.0 d.0, c.loop-piece.seat.me.1 ++ (c.loop-piece.slot, None) ∷ []) = d.1 in
    let more : one_if v.busy + length (d.0 ∷ i.0.0) ≡ suc n = omega arith in
    let hand : c.loop-piece.seat.me.1 ++ (c.loop-piece.slot, None) ∷ [] ≡ empty_slots first (one_if v.busy + length (d.0 ∷ i.0.0)) =
    ap (λ m. m.1 ++ (c.loop-piece.slot, None) ∷ []) i.0.1 ∙ (slots_next n first c.loop-piece.slot at ∙ ap (empty_slots first) (sym more)) in
    let view : skipped_piece c.loop-piece.seat.me.0 d.0 ≡ with_dropped v (d.0 ∷ i.0.0) = ap (λ m. skipped_piece m.0 d.0) i.0.1 in
    let same = c.drop_piece.ensures.same in
    ((d.0 ∷ i.0.0, now ∙ (λ j. (view j, hand j)), omega arith), same.0 ∙ i.1, same.1 ∙ i.2, (let p = c.place_behind-slot.ensures in let s = i.3 in omega arith))
