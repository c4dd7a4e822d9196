-- The end is the record of the end alone.
use Rattle.std.proofs.Common.{◌≡◌, ℕ, zero, suc, ◌+◌, Bool, true, false, List, [], ◌∷◌, ◌++◌, map, refl, ap, sym, ◌∙◌}
use Rattle.units.specs.declared.Move.{Move}
use Rattle.step_line.specs.declared.Piece.{Piece}
use Rattle.step_line.specs.declared.Piece.TheVariants as pieces
use Rattle.step_line.specs.declared.Record.{Record}
use Rattle.step_line.specs.declared.Record.TheVariants as kinds
use Rattle.step_line.specs.Events.{event_of, events_after}
use Rattle.step_line.specs.Pieces.{records_of, head_of}
use Rattle.step_line.specs.Records.{is_end}

-- whether the last of some records is the end
abbrev ends : List Record → Bool
ends [] = false
ends (r ∷ []) = is_end r
ends (r ∷ (s ∷ rs)) = ends (s ∷ rs)

ends-append : (rs : List Record) (s : Record) (ss : List Record) → ends (rs ++ s ∷ ss) ≡ ends (s ∷ ss)
ends-append [] s ss = refl
ends-append (r ∷ []) s ss = refl
ends-append (r ∷ (q ∷ rs)) s ss = ends-append (q ∷ rs) s ss

events_do_not_end : (m : Move) (k n : ℕ) (r : Record) → is_end r ≡ false → ends (r ∷ map kinds.Event (events_after m k n)) ≡ false
events_do_not_end m k zero r e = e
events_do_not_end m k (suc n) r e = events_do_not_end m (k + 1) n (kinds.Event (event_of m (k + 1))) refl

-- a piece whose last record is the end is the end
pub end_piece : (p : Piece) (front : List Record) (r : Record) → records_of p ≡ front ++ r ∷ [] → is_end r ≡ true → p ≡ pieces.End
end_piece (pieces.Segment s) front r e end =
    let b = events_do_not_end s.mv s.first s.n (kinds.Head (head_of s)) refl in
    let f : false ≡ true = sym b ∙ (ap ends e ∙ (ends-append front r [] ∙ end)) in absurd cc
end_piece (pieces.Mark m) front r e end = let f : false ≡ true = ap ends e ∙ (ends-append front r [] ∙ end) in absurd cc
end_piece pieces.End front r e end = refl
