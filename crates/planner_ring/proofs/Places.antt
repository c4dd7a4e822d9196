-- The slots between two places, as blocks come and go.
use Rattle.std.proofs.Common.{◌≡◌, ◌≢◌, ℕ, zero, suc, ◌+◌, ◌-◌, ◌%◌, ◌<◌, ◌≤◌, ◌⊎◌, true, false, cond, nat_le, List, [], ◌∷◌, ◌++◌, length, get_or, take, drop, set, ap, sym, ◌∙◌, inl, inr, mod-eq_of_lt, arith, length-drop, length-set, get_or-drop, get_or-set_same, get_or-set_other}
use Rattle.std.specs.List.{refill}
use Rattle.std.proofs.Math.Seq.{take-append_seam}
use Rattle.std.proofs.lemmas.List.{same_lists, set-get_or}
use Rattle.std.proofs.lemmas.Bool.{cases_lt}
use Rattle.std.proofs.lemmas.Bool.Decides.{nat_tests}
use Rattle.units.specs.Windows.{window}
use Rattle.units.proofs.Windows.{wraps, length-window, get_or-window, window_push, window_drop}
use Rattle.planner_ring.specs.Windows.{stretch, between, IsRing}

-- the stretch ends at its end
pub stretch_is : (N k f : ℕ) → k < N → f < N → ((k ≤ f) × (stretch N k f ≡ f - k)) ⊎ ((f < k) × (stretch N k f ≡ f + N - k))
stretch_is N k f kn fn = elim (cases_lt f k) [
  | inl less ↦ let test : nat_le k f ≡ false = grind (arith, nat_tests) in inr (less, ap (λ b. cond b (f - k) (f + N - k)) test)
  | inr le ↦ let test : nat_le k f ≡ true = grind (arith, nat_tests) in inl (le, ap (λ b. cond b (f - k) (f + N - k)) test)
]

module _ {X : Type 0} (N k n : ℕ) (xs : List X) (start : k < N) (fits : n ≤ N) (long : length xs ≡ N) where
  -- a write at its first place changes its first item
  pub window_set : (x : X) → 0 < n → window k n (set xs k x) ≡ x ∷ drop 1 (window k n xs)
  window_set x some = same_lists _ _ (omega (arith, length_old, length_new, length-drop 1 (window k n xs))) items where
    length_ys : length (set xs k x) ≡ N
    length_ys = length-set xs k x ∙ long

    length_old : length (window k n xs) ≡ n
    length_old = length-window N k n xs start fits long

    length_new : length (window k n (set xs k x)) ≡ n
    length_new = length-window N k n (set xs k x) start fits length_ys

    items : (i : ℕ) (d : X) → i < length (window k n (set xs k x)) → get_or (window k n (set xs k x)) i d ≡ get_or (x ∷ drop 1 (window k n xs)) i d
    items zero d within =
        let here : (k + 0) % N ≡ k = ap (λ j. j % N) (omega arith) ∙ mod-eq_of_lt start in
        let lt : k < length xs = omega arith in
        get_or-window N k n (set xs k x) start fits length_ys 0 d (omega (arith, length_new)) ∙ ap (λ j. get_or (set xs k x) j d) here ∙ get_or-set_same xs k x d lt
    items (suc i) d within =
        let inside : suc i < n = omega (arith, length_new) in
        let other : (k + suc i) % N ≢ k = elim (wraps N (k + suc i) (omega arith)) [ inl low ↦ λ e. omega (arith, low.1) | inr high ↦ λ e. omega (arith, high.1) ] in
        let one : 1 + i ≡ suc i = omega arith in
        get_or-window N k n (set xs k x) start fits length_ys (suc i) d inside ∙ get_or-set_other xs k ((k + suc i) % N) x d other
        ∙ sym (get_or-window N k n xs start fits long (suc i) d inside)
        ∙ ap (λ j. get_or (window k n xs) j d) (sym one) ∙ sym (get_or-drop 1 (window k n xs) i d)

-- how long a stretch is, and how it changes
pub stretch_below : (N k f : ℕ) → k < N → f < N → stretch N k f < N
stretch_below N k f kn fn = elim (stretch_is N k f kn fn) [ inl up ↦ omega (arith, up.1) | inr round ↦ omega (arith, round.1) ]

pub stretch_end : (N k f : ℕ) → k < N → f < N → (k + stretch N k f) % N ≡ f
stretch_end N k f kn fn = elim (stretch_is N k f kn fn) [
  | inl up ↦ elim (wraps N (k + stretch N k f) (omega (arith, up.1))) [ inl low ↦ omega (arith, up.1, low.1) | inr high ↦ omega (arith, up.1, high.0) ]
  | inr round ↦ elim (wraps N (k + stretch N k f) (omega (arith, round.1))) [ inl low ↦ omega (arith, round.1, low.0) | inr high ↦ omega (arith, round.1, high.1) ]
]

next_below : (N k : ℕ) → k < N → (k + 1) % N < N
next_below N k kn = elim (wraps N (k + 1) (omega arith)) [ inl low ↦ omega (arith, low.1) | inr high ↦ omega (arith, high.1) ]

stretch_dropped : (N k f : ℕ) → k < N → f < N → 0 < stretch N k f → stretch N ((k + 1) % N) f ≡ stretch N k f - 1
stretch_dropped N k f kn fn some =
    let next = wraps N (k + 1) (omega arith) in
    let old = stretch_is N k f kn fn in
    let new = stretch_is N ((k + 1) % N) f (next_below N k kn) fn in
    grind (arith, next, old, new)

stretch_pushed : (N k f : ℕ) → k < N → f < N → stretch N k f + 1 < N → stretch N k ((f + 1) % N) ≡ stretch N k f + 1
stretch_pushed N k f kn fn room =
    let next = wraps N (f + 1) (omega arith) in
    let old = stretch_is N k f kn fn in
    let new = stretch_is N k ((f + 1) % N) kn (next_below N f fn) in
    grind (arith, next, old, new)

module _ {X : Type 0} (N k f : ℕ) (xs : List X) (is : IsRing N k f xs) where
  pub length-between : length (between N k f xs) ≡ stretch N k f
  length-between = let below = stretch_below N k f is.first is.free in length-window N k (stretch N k f) xs is.first (omega arith) is.slots

  -- the ring has room exactly where the place behind the free one isn't the tail's
  pub room_of : (f + 1) % N ≢ k → length (between N k f xs) + 1 < N
  room_of free =
      let next = wraps N (f + 1) (omega (arith, is.free)) in
      let old = stretch_is N k f is.first is.free in
      let long = length-between in
      let some = is.some in
      grind (arith, next, old, free)

  pub between_drop : 0 < length (between N k f xs) → between N ((k + 1) % N) f xs ≡ drop 1 (between N k f xs)
  between_drop some =
      let long = length-between in
      let below = stretch_below N k f is.first is.free in
      ap (λ n. window ((k + 1) % N) n xs) (stretch_dropped N k f is.first is.free (omega arith))
      ∙ sym (window_drop N k (stretch N k f) xs is.first (omega arith) is.slots (omega arith))

  pub between_push : (x : X) → length (between N k f xs) + 1 < N → between N k ((f + 1) % N) (set xs f x) ≡ between N k f xs ++ x ∷ []
  between_push x room =
      let long = length-between in
      let below = stretch_below N k f is.first is.free in
      ap (λ n. window k n (set xs f x)) (stretch_pushed N k f is.first is.free (omega arith))
      ∙ ap (λ j. window k (stretch N k f + 1) (set xs j x)) (sym (stretch_end N k f is.first is.free))
      ∙ window_push N k (stretch N k f) xs is.first (omega arith) is.slots x (omega arith)

  pub between_set : (x : X) → 0 < length (between N k f xs) → between N k f (set xs k x) ≡ x ∷ drop 1 (between N k f xs)
  between_set x some =
      let long = length-between in
      let below = stretch_below N k f is.first is.free in
      window_set N k (stretch N k f) xs is.first (omega arith) is.slots x (omega arith)

  pub some_of : k ≢ f → 0 < length (between N k f xs)
  some_of apart =
      let long = length-between in
      elim (stretch_is N k f is.first is.free) [ inl up ↦ omega (arith, long, up.1, apart) | inr round ↦ omega (arith, long, round.1, is.first) ]

  pub empty_of : k ≡ f → between N k f xs ≡ []
  empty_of same =
      let long = length-between in
      let none : stretch N k f ≡ 0 = elim (stretch_is N k f is.first is.free) [ inl up ↦ omega (arith, up.1, same) | inr round ↦ absurd (omega (arith, round.0, same)) ] in
      ap (λ n. window k n xs) none

module _ {X : Type 0} (N k f : ℕ) (xs : List X) (is : IsRing N k f xs) where
  -- the first item is that of the first place
  pub between_first : (d : X) → 0 < length (between N k f xs) → between N k f xs ≡ get_or xs k d ∷ drop 1 (between N k f xs)
  between_first d some = ap (between N k f) (sym (set-get_or xs k d)) ∙ between_set N k f xs is (get_or xs k d) some

-- a slot that is written through a slice of all slots
pub refill_set : {X : Type 0} (xs ys : List X) (i : ℕ) (x : X) → ys ≡ xs → refill (length xs) xs (set ys i x) ≡ set xs i x
refill_set xs ys i x same =
    let long : length (set ys i x) ≡ length xs = length-set ys i x ∙ ap length same in
    ap (λ n. take n (set ys i x ++ drop (length (set ys i x)) xs)) (sym long) ∙ take-append_seam (set ys i x) _ ∙ ap (λ l. set l i x) same
