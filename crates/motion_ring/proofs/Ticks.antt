-- The ticks of pieces that came in turn.
use Rattle.std.proofs.Common.{◌≡◌, ℕ, zero, suc, ◌+◌, ◌-◌, ◌<◌, ◌≤◌, true, false, List, [], ◌∷◌, ◌++◌, length, drop, reverse, refl, ap, subst, ◌∙◌, arith, lt_of_not-le}
use native.Mathlib.Decide.{dec_le}
use Rattle.std.proofs.lemmas.Grind.{reverse_onto}
use Rattle.step_line.specs.declared.Piece.{Piece}
use Rattle.step_line.specs.declared.Piece.TheVariants as pieces
use Rattle.step_line.specs.Ordering.{ComesNext, InTurn, has_ended}
use Rattle.step_line.specs.Finishing.{tick_count, ticks_together, unfinished}
pub use Rattle.step_line.proofs.Finished.{segment_ticks}
use Rattle.step_line.proofs.Finished.{together, together_on, all_done, one_more_behind, end_is_finished}
use Rattle.motion_ring.specs.declared.view.MotionSight.{MotionSight}
use Rattle.motion_ring.specs.Ticks.{unfinished_of}
use Rattle.motion_ring.specs.Sides.{published_in, ticks_at, unfinished_in, room_from}
use Rattle.motion_ring.specs.Rule.{IsKnown, saw_halt}
use Rattle.motion_ring.proofs.Sides.{going_since}

-- a piece that is no end has a tick
pub has_tick : (h : List Piece) (p : Piece) → ComesNext h p → has_ended (p ∷ h) ≡ false → 0 < tick_count p
has_tick h (pieces.Segment s) next going = let f = next.follows in let n = f.0.head.n in let e = segment_ticks s in omega arith
has_tick h (pieces.Mark m) next going = omega arith
has_tick h pieces.End next going = absurd (let e : true ≡ false = going in cc)

pub of_suffix : (rest got : List Piece) → InTurn (rest ++ got) → InTurn got
of_suffix [] got turns = turns
of_suffix (p ∷ rest) got turns = of_suffix rest got turns.1

-- with a piece behind them they have not ended
pub going_before : (rest got : List Piece) → InTurn (rest ++ got) → 0 < length rest → has_ended got ≡ false
going_before [] got turns more = absurd (omega arith)
going_before (p ∷ []) got turns more = turns.0.going
going_before (p ∷ q ∷ rest) got turns more = going_before (q ∷ rest) got turns.1 (omega arith)

pub fewer_dropped : (i : ℕ) (h : List Piece) → ticks_together (drop i h) ≤ ticks_together h
fewer_dropped zero h = omega arith
fewer_dropped (suc i) [] = omega arith
fewer_dropped (suc i) (p ∷ h) = let e = together p h in let f = fewer_dropped i h in omega arith

pub fewer_further : (i j : ℕ) (h : List Piece) → j ≤ i → ticks_together (drop i h) ≤ ticks_together (drop j h)
fewer_further i zero h le = fewer_dropped i h
fewer_further zero (suc j) h le = absurd (omega arith)
fewer_further (suc i) (suc j) [] le = omega arith
fewer_further (suc i) (suc j) (p ∷ h) le = fewer_further i j h (omega arith)

pub got_among : (j : ℕ) (rest got : List Piece) → j ≤ length rest → ticks_together got ≤ ticks_together (drop j (rest ++ got))
got_among zero [] got le = omega arith
got_among zero (p ∷ rest) got le = let e = together p (rest ++ got) in let f = got_among zero rest got (omega arith) in omega arith
got_among (suc j) [] got le = absurd (omega arith)
got_among (suc j) (p ∷ rest) got le = got_among j rest got (omega arith)

pub got_below : (j : ℕ) (rest got : List Piece) → j < length rest → InTurn (rest ++ got) → has_ended (rest ++ got) ≡ false → ticks_together got < ticks_together (drop j (rest ++ got))
got_below j [] got lt turns going = absurd (omega arith)
got_below zero (p ∷ rest) got lt turns going =
    let e = together p (rest ++ got) in let f = got_among zero rest got (omega arith) in let t = has_tick (rest ++ got) p turns.0 going in omega arith
got_below (suc j) (p ∷ rest) got lt turns going = got_below j rest got (omega arith) turns.1 turns.0.going

-- there are no more pieces than ticks, but for the end
pub few_pieces : (h : List Piece) → InTurn h → has_ended h ≡ false → length h ≤ ticks_together h
few_pieces [] turns going = omega arith
few_pieces (p ∷ h) turns going = let e = together p h in let t = has_tick h p turns.0 going in let f = few_pieces h turns.1 turns.0.going in omega arith

reverse_on : (h : List Piece) (p : Piece) → reverse (p ∷ h) ≡ reverse h ++ p ∷ []
reverse_on h p = reverse_onto h p []

pub together_reversed : (h : List Piece) → ticks_together (reverse h) ≡ ticks_together h
together_reversed [] = refl
together_reversed (p ∷ h) = ap ticks_together (reverse_on h p) ∙ (let a = together_on (reverse h) p in let b = together p h in let c = together_reversed h in omega arith)

one_more : (h : List Piece) (p : Piece) (done : ℕ) → 0 < tick_count p → done < ticks_together (p ∷ h) → unfinished_of (p ∷ h) done ≡ unfinished_of h done + 1
one_more h p done some_ticks lt = ap (λ (l : List Piece). unfinished l done) (reverse_on h p) ∙ one_more_behind (reverse h) p done some_ticks
    (let a = ap ticks_together (reverse_on h p) in let b = together_reversed (p ∷ h) in omega arith)

none_unfinished : (h : List Piece) (done : ℕ) → ticks_together h ≤ done → unfinished_of h done ≡ 0
none_unfinished h done le = all_done (reverse h) done (let e = together_reversed h in omega arith)

-- where all ticks but those of the last k pieces are done, at most k are unfinished
pub few_unfinished : (k : ℕ) (h : List Piece) (done : ℕ) → InTurn h → has_ended h ≡ false → ticks_together (drop k h) ≤ done → unfinished_of h done ≤ k
few_unfinished zero h done turns going le = let e = none_unfinished h done le in omega arith
few_unfinished (suc k) [] done turns going le = let e = none_unfinished [] done (omega arith) in omega arith
few_unfinished (suc k) (p ∷ h) done turns going le = go (few_unfinished k h done turns.1 turns.0.going le) (dec_le (ticks_together (p ∷ h)) done)
  where
    go : unfinished_of h done ≤ k → Dec (ticks_together (p ∷ h) ≤ done) → unfinished_of (p ∷ h) done ≤ suc k
    go few (yes d) = let e = none_unfinished (p ∷ h) done d in omega arith
    go few (no d) = let e = one_more h p done (has_tick h p turns.0 going) (lt_of_not-le d) in omega arith

-- where all ticks but those of the last five pieces are done, at most five are unfinished; the end is never
pub at_most_five : (h : List Piece) (done : ℕ) → InTurn h → ticks_together (drop 5 h) ≤ done → unfinished_of h done ≤ 5
at_most_five [] done turns le = omega arith
at_most_five (pieces.Segment s ∷ h) done turns le = few_unfinished 5 (pieces.Segment s ∷ h) done turns refl le
at_most_five (pieces.Mark m ∷ h) done turns le = few_unfinished 5 (pieces.Mark m ∷ h) done turns refl le
at_most_five (pieces.End ∷ h) done turns le =
    let f = few_unfinished 4 h done turns.1 turns.0.going le in
    let e : unfinished_of (pieces.End ∷ h) done ≡ unfinished_of h done = ap (λ (l : List Piece). unfinished l done) (reverse_on h pieces.End) ∙ end_is_finished (reverse h) done in omega arith

-- where they are not, more than k are
pub many_unfinished : (k : ℕ) (h : List Piece) (done : ℕ) → InTurn h → has_ended h ≡ false → done < ticks_together (drop k h) → k < unfinished_of h done
many_unfinished zero [] done turns going lt = absurd (omega arith)
many_unfinished (suc k) [] done turns going lt = absurd (omega arith)
many_unfinished zero (p ∷ h) done turns going lt = let e = one_more h p done (has_tick h p turns.0 going) lt in omega arith
many_unfinished (suc k) (p ∷ h) done turns going lt =
    let b = together p h in let f = fewer_dropped k h in
    let e = one_more h p done (has_tick h p turns.0 going) (omega arith) in let m = many_unfinished k h done turns.1 turns.0.going lt in omega arith

-- what a load of the done count says of the pieces that are unfinished
pub few_known : (v : MotionSight) (n : ℕ) → IsKnown v n → unfinished_in v.sent n ≤ 5
few_known v n told = at_most_five v.sent.since (n - ticks_at v.sent.halts) told.turns (let l = told.late in omega arith)

-- where all ticks but those of the last four pieces are done, at most four are unfinished; where they are not, five are
pub few_shown : (v : MotionSight) (n : ℕ) → IsKnown v n → has_ended (published_in v.sent) ≡ false → room_from v.sent ≤ n → unfinished_in v.sent n ≤ 4
few_shown v n told going le = few_unfinished 4 v.sent.since (n - ticks_at v.sent.halts) told.turns (going_since v.sent.since v.sent.older going) (omega arith)

pub many_shown : (v : MotionSight) (n : ℕ) → IsKnown v n → has_ended (published_in v.sent) ≡ false → n < room_from v.sent → unfinished_in v.sent n ≡ 5
many_shown v n told going lt =
    let few = few_known v n told in
    let late = told.late in
    let base : ticks_at v.sent.halts ≤ n = omega arith in
    let many = many_unfinished 4 v.sent.since (n - ticks_at v.sent.halts) told.turns (going_since v.sent.since v.sent.older going) (omega arith) in omega arith

-- once a halt is seen the done count stands
pub halt_stands : (v w : MotionSight) (n done now : ℕ) → w ≡ saw_halt v n done → IsKnown w now → now ≡ done
halt_stands v w n done now e told =
    let k : IsKnown (saw_halt v n done) now = subst (λ (x : MotionSight). IsKnown x now) e told in
    let more = k.no_more in
    let late = k.late in omega arith
