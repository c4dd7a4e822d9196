-- The events of a move, as a list.
use Rattle.std.proofs.Common.{◌≡◌, ℕ, zero, suc, ◌+◌, ◌≤◌, ◌<◌, ◌⊎◌, inl, inr, max, refl, arith, ap, sym, ◌∙◌, Bool, true, false, cond, ℤ, pos, negsuc, nat_abs, ◌∷◌, ◌++◌, length, slice_get, Some, zero-add}
use Rattle.units.specs.declared.Move.{Move}
use Rattle.units.specs.Rounding.{with_sign_of}
use Rattle.step_line.specs.Counting.{way, events_of}
use Rattle.step_line.specs.Events.{event_of, events_after, line_events, bit_at, steps_at, IsEvent}
use Rattle.step_line.proofs.Counters.{count_longest, steps_where_more}

pub length_after : (m : Move) (k n : ℕ) → length (events_after m k n) ≡ n
length_after m k zero = refl
length_after m k (suc n) = omega (arith, length_after m (k + 1) n)

pub length_line : (m : Move) → length (line_events m) ≡ events_of m
length_line m = length_after m 0 (events_of m)

one_after : (m : Move) (i n k : ℕ) → k < n → slice_get (events_after m i n) k ≡ Some (event_of m (i + k + 1))
one_after m i zero k h = absurd (omega arith)
one_after m i (suc n) zero h = ap (λ j. Some (event_of m j)) (let e : i + 1 ≡ i + 0 + 1 = omega arith in e)
one_after m i (suc n) (suc k) h = one_after m (i + 1) n k (omega arith) ∙ ap (λ j. Some (event_of m j)) (let e : i + 1 + k + 1 ≡ i + suc k + 1 = omega arith in e)

pub one_of_line : (m : Move) (k : ℕ) → k < events_of m → slice_get (line_events m) k ≡ Some (event_of m (k + 1))
one_of_line m k h = one_after m 0 (events_of m) k h ∙ ap (λ j. Some (event_of m j)) (let e : 0 + k + 1 ≡ k + 1 = omega arith in e)

suc-add : (i j : ℕ) → suc i + j ≡ suc (i + j)
suc-add i j = omega arith

pub in_parts : (m : Move) (k i j : ℕ) → events_after m k (i + j) ≡ events_after m k i ++ events_after m (k + i) j
in_parts m k zero j = ap (events_after m k) (zero-add j) ∙ ap (λ n. events_after m n j) (let e : k ≡ k + 0 = omega arith in e)
in_parts m k (suc i) j =
    ap (events_after m k) (suc-add i j) ∙ ap (λ bs. event_of m (k + 1) ∷ bs) (in_parts m (k + 1) i j)
    ∙ ap (λ n. event_of m (k + 1) ∷ (events_after m (k + 1) i ++ events_after m n j)) (let e : k + 1 + i ≡ k + suc i = omega arith in e)

bit_small : (d : ℤ) (b : Bool) → nat_abs (cond b (with_sign_of d 1) (pos 0)) ≤ 1
bit_small (pos n) true = omega arith
bit_small (pos n) false = omega arith
bit_small (negsuc n) true = omega arith
bit_small (negsuc n) false = omega arith

one_step : (d : ℤ) → nat_abs (with_sign_of d 1) ≡ 1
one_step (pos n) = refl
one_step (negsuc n) = refl

-- the longest axis steps at each event
longest_steps : (d : ℤ) (k : ℕ) → 0 < nat_abs d → nat_abs (bit_at d (nat_abs d) (k + 1)) ≡ 1
longest_steps d k some =
    let N = nat_abs d in
    let more = steps_where_more N N k (count_longest N (k + 1) some ∙ ap (λ n. n + 1) (sym (count_longest N k some))) in
    ap (λ b. nat_abs (cond b (with_sign_of d 1) (pos 0))) more ∙ one_step d

pub longest_at : (d : ℤ) (N k : ℕ) → N ≡ nat_abs d → 0 < N → nat_abs (bit_at d N (k + 1)) ≡ 1
longest_at d N k e some = rw e (longest_steps d k (omega (arith, e)))

longest_is : (a b c : ℕ) → (max a (max b c) ≡ a) ⊎ ((max a (max b c) ≡ b) ⊎ (max a (max b c) ≡ c))
longest_is a b c = grind arith

some_steps : (m : Move) (N k : ℕ) → 0 < N → (N ≡ nat_abs (way m).x) ⊎ ((N ≡ nat_abs (way m).y) ⊎ (N ≡ nat_abs (way m).z))
    → 0 < nat_abs (bit_at (way m).x N (k + 1)) + nat_abs (bit_at (way m).y N (k + 1)) + nat_abs (bit_at (way m).z N (k + 1))
some_steps m N k some longest = elim longest [
  | inl x ↦ omega (arith, longest_at (way m).x N k x some)
  | inr rest ↦ elim rest [
    | inl y ↦ omega (arith, longest_at (way m).y N k y some)
    | inr z ↦ omega (arith, longest_at (way m).z N k z some)
  ]
]

longest_of : (m : Move) → (events_of m ≡ nat_abs (way m).x) ⊎ ((events_of m ≡ nat_abs (way m).y) ⊎ (events_of m ≡ nat_abs (way m).z))
unfolding events_of
longest_of m = longest_is (nat_abs (way m).x) (nat_abs (way m).y) (nat_abs (way m).z)

pub is_event : (m : Move) (k : ℕ) → k < events_of m → IsEvent (event_of m (k + 1))
unfolding event_of
is_event m k h =
    let N = events_of m in record {
      x = bit_small (way m).x (steps_at (nat_abs (way m).x) N (k + 1));
      y = bit_small (way m).y (steps_at (nat_abs (way m).y) N (k + 1));
      z = bit_small (way m).z (steps_at (nat_abs (way m).z) N (k + 1));
      some = some_steps m N k (omega arith) (longest_of m);
    }

-- an event by what it does to each axis
pub event_by_axes : (m : Move) (N k : ℕ) (x y z : ℤ) → N ≡ events_of m → x ≡ bit_at (way m).x N k → y ≡ bit_at (way m).y N k → z ≡ bit_at (way m).z N k → record { x = x; y = y; z = z } ≡ event_of m k
unfolding event_of
event_by_axes m N k x y z e f g h = cc
