-- The slots of a flight, as pieces come and go.
use Rattle.std.proofs.Common.{◌≡◌, ℕ, ◌+◌, ◌-◌, ◌%◌, ◌<◌, ◌^◌, List, [], ◌∷◌, ◌++◌, length, drop, get_or, slice_set, sym, ◌∙◌, arith, subst, length-set, inl, inr}
use Rattle.std.specs.List.{All}
use Rattle.std.proofs.lemmas.List.Elements.{All-nil, All-cons, All-head, All-drop, All-append}
use Rattle.units.specs.declared.Move.{Move}
use Rattle.step_line.specs.declared.Piece.{Piece}
use Rattle.step_line.specs.declared.Piece.TheVariants as pieces
use Rattle.step_line.specs.Finishing.{tick_count}
use Rattle.flight.specs.Flights.{MayBeKept, IsFlight, flight_room, slots_in_all, window, EndsWithin}
use Rattle.flight.proofs.Counts.{segment_ticks}
use Rattle.flight.proofs.Flying.{within_on}
use Rattle.units.proofs.Windows.{wraps, length-window, window_push, window_drop, window_first}

-- no piece has 2 ^ 32 ticks
pub few_ticks : (p : Piece) → MayBeKept p → tick_count p < 2 ^ 32
few_ticks (pieces.Segment s) is = let n = is.fits.head.n in let e = segment_ticks s in omega (arith, n.1)
few_ticks (pieces.Mark m) is = omega arith
few_ticks pieces.End is = omega arith

none_made : (ps : List Piece) (done : ℕ) → All MayBeKept ps → done ≡ 0 → EndsWithin ps done
none_made [] done kept none = none
none_made (p ∷ ps) done kept none = let some = (All-head MayBeKept p ps kept).ticks in omega (arith, some)

module _ (slots : List Piece) (head count : ℕ) (mv : Move) (events before known : ℕ) (is : IsFlight slots head count mv events before known) where
  pub in_use : length (window head count slots) ≡ count
  in_use = length-window slots_in_all head count slots is.place (let few = is.few in omega arith) is.long

  pub first_kept : (ps : List Piece) (d : Piece) → 0 < count → window head count slots ≡ ps → (ps ≡ get_or slots head d ∷ drop 1 ps) × MayBeKept (get_or slots head d)
  first_kept ps d some same =
      let first = subst (λ (qs : List Piece). qs ≡ get_or slots head d ∷ drop 1 qs) same (window_first slots_in_all head count slots is.place (let few = is.few in omega arith) is.long d some) in
      (first, All-head MayBeKept (get_or slots head d) (drop 1 ps) (subst (All MayBeKept) (same ∙ first) is.kept))

  pub pushed_slots : (p : Piece) → count < flight_room → window head (count + 1) (slice_set slots ((head + count) % slots_in_all) p) ≡ window head count slots ++ p ∷ []
  pushed_slots p few = window_push slots_in_all head count slots is.place (omega arith) is.long p (omega arith)

  pub pushed_flight : (p : Piece) → count < flight_room → MayBeKept p → IsFlight (slice_set slots ((head + count) % slots_in_all) p) head (count + 1) mv events before known
  pushed_flight p few kept =
      let more = pushed_slots p few in
      record {
        long = length-set slots ((head + count) % slots_in_all) p ∙ is.long;
        place = is.place;
        few = omega arith;
        kept = subst (All MayBeKept) (sym more) (All-append MayBeKept (window head count slots) (p ∷ []) is.kept (All-cons MayBeKept p [] kept (All-nil MayBeKept)));
        fits = is.fits;
        within_move = is.within_move;
        low = is.low;
        within = subst (λ (ps : List Piece). EndsWithin ps (known - before)) (sym more) (within_on (window head count slots) p (known - before) kept.ticks is.within);
      }

  pub next_place : (head + 1) % slots_in_all < slots_in_all
  next_place = let place = is.place in elim (wraps slots_in_all (head + 1) (omega arith)) [ inl low ↦ omega (arith, low.1) | inr high ↦ omega (arith, high.1) ]

  pub dropped_slots : 0 < count → window ((head + 1) % slots_in_all) (count - 1) slots ≡ drop 1 (window head count slots)
  dropped_slots some = sym (window_drop slots_in_all head count slots is.place (let few = is.few in omega arith) is.long some)

  pub dropped_flight : (done : ℕ) → 0 < count → IsFlight slots ((head + 1) % slots_in_all) (count - 1) mv events done done
  dropped_flight done some =
      let kept : All MayBeKept (window ((head + 1) % slots_in_all) (count - 1) slots) = subst (All MayBeKept) (sym (dropped_slots some)) (All-drop MayBeKept 1 (window head count slots) is.kept) in
      record {
        long = is.long;
        place = next_place;
        few = let few = is.few in omega arith;
        kept = kept;
        fits = is.fits;
        within_move = is.within_move;
        low = omega arith;
        within = none_made (window ((head + 1) % slots_in_all) (count - 1) slots) (done - done) kept (omega arith);
      }
