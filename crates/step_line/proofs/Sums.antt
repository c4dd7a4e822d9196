-- Where a move is, and the sum of its events.
use Rattle.std.proofs.Common.{◌≡◌, ℕ, zero, suc, ◌+◌, ◌≤◌, inl, inr, refl, arith, ap, ◌∙◌, ℤ, pos, negsuc, nat_abs, ◌+ℤ◌, ◌-ℤ◌}
use Rattle.std.proofs.lemmas.Int.{ints}
use Rattle.units.specs.declared.Steps3.{Steps3}
use Rattle.units.specs.declared.Move.{Move}
use Rattle.units.specs.Rounding.{with_sign_of}
use Rattle.units.specs.Lengths.{IsCoordinate, IsPlace, IsMove}
use Rattle.step_line.specs.Counting.{count, way, events_of}
use Rattle.step_line.specs.Events.{event_of, events_after, bit_at}
use Rattle.step_line.specs.Places.{axis_after, place_after, stepped, stepped_by}
use Rattle.step_line.proofs.Counters.{count_none, count_all, count_le, one_more_or_same, steps_where_more, stays_where_same}

axes_within : (m : Move) → (nat_abs (way m).x ≤ events_of m) × (nat_abs (way m).y ≤ events_of m) × (nat_abs (way m).z ≤ events_of m)
unfolding events_of
axes_within m = (omega arith, omega arith, omega arith)

none_added : (f d : ℤ) → f +ℤ with_sign_of d 0 ≡ f
none_added f (pos n) = omega (arith, ints)
none_added f (negsuc n) = omega (arith, ints)

axis_start : (f d : ℤ) (N : ℕ) → nat_abs d ≤ N → axis_after f d N 0 ≡ f
unfolding axis_after
axis_start f d N h = ap (λ n. f +ℤ with_sign_of d n) (count_none (nat_abs d) N h) ∙ none_added f d

all_of_it : (d : ℤ) → with_sign_of d (nat_abs d) ≡ d
all_of_it (pos n) = refl
all_of_it (negsuc n) = refl

there : (f t : ℤ) → f +ℤ (t -ℤ f) ≡ t
there f t = omega (arith, ints)

axis_end : (f t : ℤ) (N : ℕ) → nat_abs (t -ℤ f) ≤ N → axis_after f (t -ℤ f) N N ≡ t
unfolding axis_after
axis_end f t N h = ap (λ n. f +ℤ with_sign_of (t -ℤ f) n) (count_all (nat_abs (t -ℤ f)) N h) ∙ ap (λ d. f +ℤ d) (all_of_it (t -ℤ f)) ∙ there f t

-- a number with a sign, one more
with_one_more : (d : ℤ) (q : ℕ) → with_sign_of d (q + 1) ≡ with_sign_of d q +ℤ with_sign_of d 1
with_one_more (pos n) q = refl
with_one_more (negsuc n) zero = refl
with_one_more (negsuc n) (suc q) = omega (arith, ints)

axis_step : (f d : ℤ) (N k : ℕ) → nat_abs d ≤ N → axis_after f d N (k + 1) ≡ axis_after f d N k +ℤ bit_at d N (k + 1)
unfolding axis_after
axis_step f d N k h = elim (one_more_or_same (nat_abs d) N k h) [
  | inl same ↦ let rests = stays_where_same (nat_abs d) N k same in rw (same, rests) (omega (arith, ints))
  | inr more ↦ let steps = steps_where_more (nat_abs d) N k more in rw (more, steps, with_one_more d (count (nat_abs d) N k)) (omega (arith, ints))
]

place_step : (m : Move) (k : ℕ) → place_after m (k + 1) ≡ stepped (place_after m k) (event_of m (k + 1))
unfolding place_after event_of
place_step m k =
    let w = axes_within m in
    let N = events_of m in
    let x = axis_step m.from.x (way m).x N k w.0 in
    let y = axis_step m.from.y (way m).y N k w.1 in
    let z = axis_step m.from.z (way m).z N k w.2 in
    cc

-- the same place on each axis is the same place
same_place : (x y z x' y' z' : ℤ) → x ≡ x' → y ≡ y' → z ≡ z' → Path Steps3 (record { x = x; y = y; z = z }) (record { x = x'; y = y'; z = z' })
same_place x y z x' y' z' e f g = cc

pub at_start : (m : Move) → place_after m 0 ≡ m.from
unfolding place_after
at_start m =
    let w = axes_within m in
    let N = events_of m in
    same_place _ _ _ _ _ _ (axis_start m.from.x (way m).x N w.0) (axis_start m.from.y (way m).y N w.1) (axis_start m.from.z (way m).z N w.2)

pub at_end : (m : Move) → place_after m (events_of m) ≡ m.to
unfolding place_after
at_end m =
    let w = axes_within m in
    let N = events_of m in
    same_place _ _ _ _ _ _ (axis_end m.from.x m.to.x N w.0) (axis_end m.from.y m.to.y N w.1) (axis_end m.from.z m.to.z N w.2)

pub by_sums : (m : Move) (k n : ℕ) → place_after m (k + n) ≡ stepped_by (place_after m k) (events_after m k n)
by_sums m k zero = ap (place_after m) (let e : k + 0 ≡ k = omega arith in e)
by_sums m k (suc n) =
    ap (place_after m) (let e : k + suc n ≡ k + 1 + n = omega arith in e) ∙ by_sums m (k + 1) n
    ∙ ap (λ p. stepped_by p (events_after m (k + 1) n)) (place_step m k)

-- on the way between two coordinates there are coordinates
between : (f t d : ℤ) (c : ℕ) → d ≡ t -ℤ f → IsCoordinate f → IsCoordinate t → c ≤ nat_abs d → IsCoordinate (f +ℤ with_sign_of d c)
between f t (pos n) c e from to few = omega (arith, ints, e)
between f t (negsuc n) c e from to few = omega (arith, ints, e)

axis_within : (f t : ℤ) (N k : ℕ) → IsCoordinate f → IsCoordinate t → nat_abs (t -ℤ f) ≤ N → k ≤ N → IsCoordinate (axis_after f (t -ℤ f) N k)
unfolding axis_after
axis_within f t N k from to h le = between f t (t -ℤ f) (count (nat_abs (t -ℤ f)) N k) refl from to (count_le (nat_abs (t -ℤ f)) N k h le)

pub is_place : (m : Move) (k : ℕ) → IsMove m → k ≤ events_of m → IsPlace (place_after m k)
unfolding place_after
is_place m k is le =
    let w = axes_within m in
    let N = events_of m in record {
      x = axis_within m.from.x m.to.x N k is.from.x is.to.x w.0 le;
      y = axis_within m.from.y m.to.y N k is.from.y is.to.y w.1 le;
      z = axis_within m.from.z m.to.z N k is.from.z is.to.z w.2 le;
    }
