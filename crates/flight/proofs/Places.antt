-- Where ticks lead.
use Rattle.std.proofs.Common.{◌≡◌, ℕ, zero, suc, ◌+◌, ◌≤◌, List, [], ◌∷◌, ◌++◌, map, take, sym, refl, ap, ◌∙◌, arith, append-nil}
use Rattle.std.specs.List.{flat_map}
use Rattle.std.proofs.lemmas.List.{take-append-le}
use Rattle.std.proofs.lemmas.List.Concat.{flat_map-append}
use Rattle.std.proofs.Math.Seq.{take-append-add, take-append_seam}
use Rattle.std.proofs.lemmas.Int.{ints}
use Rattle.units.specs.Lengths.{IsMove}
use Rattle.units.specs.declared.Move.{Move}
use Rattle.units.specs.declared.Steps3.{Steps3}
use Rattle.step_line.specs.declared.Bits.{Bits}
use Rattle.step_line.specs.declared.Mark.{Mark}
use Rattle.step_line.specs.declared.Segment.{Segment}
use Rattle.step_line.specs.declared.Piece.{Piece}
use Rattle.step_line.specs.declared.Piece.TheVariants as pieces
use Rattle.step_line.specs.declared.Record.{Record}
use Rattle.step_line.specs.declared.Record.TheVariants as kinds
use Rattle.step_line.specs.Events.{event_of, events_after}
use Rattle.step_line.specs.Pieces.{ticks_of, GoesOn, IsTraceable}
use Rattle.step_line.specs.Counting.{events_of}
use Rattle.step_line.specs.Places.{place_after, stepped, stepped_by}
use Rattle.step_line.specs.Finishing.{tick_count, ticks_together}
use Rattle.step_line.proofs.Sums.{at_start, by_sums}
use Rattle.flight.specs.Places.{moved_by, origin, machine_from, end_from, machine_at, end_of}
use Rattle.flight.specs.Flights.{BeginsAt}
use Rattle.flight.proofs.Counts.{segment_ticks}

pub moved_on : (p : Steps3) (xs ys : List Record) → moved_by p (xs ++ ys) ≡ moved_by (moved_by p xs) ys
moved_on p [] ys = refl
moved_on p (kinds.Event b ∷ xs) ys = moved_on (stepped p b) xs ys
moved_on p (kinds.Mark m ∷ xs) ys = moved_on p xs ys
moved_on p (kinds.Head h ∷ xs) ys = moved_on p xs ys
moved_on p (kinds.End ∷ xs) ys = moved_on p xs ys

events_move : (p : Steps3) (bits : List Bits) → moved_by p (map kinds.Event bits) ≡ stepped_by p bits
events_move p [] = refl
events_move p (b ∷ bits) = events_move (stepped p b) bits

-- some events of a move, from where it is
pub goes_by : (place : Steps3) (mv : Move) (k n : ℕ) → place ≡ place_after mv k → moved_by place (map kinds.Event (events_after mv k n)) ≡ place_after mv (k + n)
goes_by place mv k n is = events_move place (events_after mv k n) ∙ ap (λ (p : Steps3). stepped_by p (events_after mv k n)) is ∙ sym (by_sums mv k n)

pub fewer_events : (mv : Move) (k n j : ℕ) (more : List Record) → j ≤ n → take j (map kinds.Event (events_after mv k n) ++ more) ≡ map kinds.Event (events_after mv k j)
fewer_events mv k n zero more few = refl
fewer_events mv k zero (suc j) more few = absurd (omega arith)
fewer_events mv k (suc n) (suc j) more few = ap (λ (rs : List Record). kinds.Event (event_of mv (k + 1)) ∷ rs) (fewer_events mv (k + 1) n j more (omega arith))

-- the ticks of some pieces, and then of more
pub moved_both : (place : Steps3) (ps qs : List Piece) → moved_by place (flat_map ticks_of (ps ++ qs)) ≡ moved_by (moved_by place (flat_map ticks_of ps)) (flat_map ticks_of qs)
moved_both place ps qs = ap (moved_by place) (flat_map-append ticks_of ps qs) ∙ moved_on place (flat_map ticks_of ps) (flat_map ticks_of qs)

pub end_on_from : (place : Steps3) (ps : List Piece) (p : Piece) → end_from place (ps ++ p ∷ []) ≡ moved_by (end_from place ps) (ticks_of p)
end_on_from place ps p = moved_both place ps (p ∷ []) ∙ ap (moved_by (end_from place ps)) (append-nil (ticks_of p))

pub end_on : (ps : List Piece) (p : Piece) → end_of (ps ++ p ∷ []) ≡ moved_by (end_of ps) (ticks_of p)
end_on ps p = end_on_from origin ps p

pub earlier : (ps qs : List Piece) (done : ℕ) → done ≤ ticks_together ps → machine_at (ps ++ qs) done ≡ machine_at ps done
earlier ps qs done few = ap (λ (rs : List Record). moved_by origin (take done rs)) (flat_map-append ticks_of ps qs) ∙ ap (moved_by origin) (take-append-le done (flat_map ticks_of ps) (flat_map ticks_of qs) few)

pub at_end_of : (ps : List Piece) → machine_at ps (ticks_together ps) ≡ end_of ps
at_end_of ps = ap (λ (rs : List Record). moved_by origin (take (ticks_together ps) rs)) (sym (append-nil (flat_map ticks_of ps))) ∙ ap (moved_by origin) (take-append_seam (flat_map ticks_of ps) [])

-- some ticks behind those of some pieces
pub some_behind_from : (place : Steps3) (ps qs : List Piece) (j : ℕ) → machine_from place (ps ++ qs) (ticks_together ps + j) ≡ moved_by (end_from place ps) (take j (flat_map ticks_of qs))
some_behind_from place ps qs j =
    ap (λ (rs : List Record). moved_by place (take (ticks_together ps + j) rs)) (flat_map-append ticks_of ps qs)
    ∙ ap (moved_by place) (take-append-add (flat_map ticks_of ps) (flat_map ticks_of qs) j)
    ∙ moved_on place (flat_map ticks_of ps) (take j (flat_map ticks_of qs))

pub some_of_segment : (place : Steps3) (s : Segment) (j : ℕ) (more : List Record) → place ≡ place_after s.mv s.first → j ≤ s.n → moved_by place (take j (ticks_of (pieces.Segment s) ++ more)) ≡ place_after s.mv (s.first + j)
some_of_segment place s j more begins few = ap (moved_by place) (fewer_events s.mv s.first s.n j more few) ∙ goes_by place s.mv s.first j begins

pub in_segment_from : (place : Steps3) (ps qs : List Piece) (s : Segment) (j : ℕ) → BeginsAt (end_from place ps) (pieces.Segment s) → j ≤ s.n
    → machine_from place (ps ++ pieces.Segment s ∷ qs) (ticks_together ps + j) ≡ place_after s.mv (s.first + j)
in_segment_from place ps qs s j begins few = some_behind_from place ps (pieces.Segment s ∷ qs) j ∙ some_of_segment (end_from place ps) s j (flat_map ticks_of qs) begins few

pub in_segment : (ps qs : List Piece) (s : Segment) (j : ℕ) → BeginsAt (end_of ps) (pieces.Segment s) → j ≤ s.n → machine_at (ps ++ pieces.Segment s ∷ qs) (ticks_together ps + j) ≡ place_after s.mv (s.first + j)
in_segment ps qs s j begins few = in_segment_from origin ps qs s j begins few

pub begins : (place : Steps3) (s : Segment) → s.first ≡ 0 → s.mv.from ≡ place → BeginsAt place (pieces.Segment s)
begins place s first is = sym is ∙ sym (at_start s.mv) ∙ ap (place_after s.mv) (sym first)

pub ends_from : (place : Steps3) (ps : List Piece) (s : Segment) → BeginsAt (end_from place ps) (pieces.Segment s) → end_from place (ps ++ pieces.Segment s ∷ []) ≡ place_after s.mv (s.first + s.n)
ends_from place ps s begins = end_on_from place ps (pieces.Segment s) ∙ goes_by (end_from place ps) s.mv s.first s.n begins

pub ends : (ps : List Piece) (s : Segment) → BeginsAt (end_of ps) (pieces.Segment s) → end_of (ps ++ pieces.Segment s ∷ []) ≡ place_after s.mv (s.first + s.n)
ends ps s begins = ends_from origin ps s begins

same_after : (s t : Segment) → GoesOn s t → place_after s.mv (s.first + s.n) ≡ place_after t.mv t.first
same_after s t on = ap (λ (mv : Move). place_after mv (s.first + s.n)) (sym on.mv) ∙ ap (place_after t.mv) (sym on.first)

pub goes_on : (ps : List Piece) (s t : Segment) → BeginsAt (end_of ps) (pieces.Segment s) → GoesOn s t → BeginsAt (end_of (ps ++ pieces.Segment s ∷ [])) (pieces.Segment t)
goes_on ps s t begins on = ends ps s begins ∙ same_after s t on

pub stays : (ps : List Piece) (m : Mark) → end_of (ps ++ pieces.Mark m ∷ []) ≡ end_of ps
stays ps m = end_on ps (pieces.Mark m)

-- ---- within one segment

pub few_events : (mv : Move) → IsMove mv → events_of mv ≤ 200000000
unfolding events_of
few_events mv is = omega (arith, ints, is.from.x, is.from.y, is.from.z, is.to.x, is.to.y, is.to.z)

pub within_move : (s : Segment) (j : ℕ) → IsTraceable s → j ≤ tick_count (pieces.Segment s) → s.first + j ≤ events_of s.mv
within_move s j is few = let n = segment_ticks s in let within = is.within in omega arith

pub some_of_one : (place : Steps3) (s : Segment) (j : ℕ) → place ≡ place_after s.mv s.first → j ≤ tick_count (pieces.Segment s) → moved_by place (take j (ticks_of (pieces.Segment s))) ≡ place_after s.mv (s.first + j)
some_of_one place s j begins few =
    let n = segment_ticks s in
    ap (λ (rs : List Record). moved_by place (take j rs)) (sym (append-nil (ticks_of (pieces.Segment s)))) ∙ some_of_segment place s j [] begins (omega arith)
