-- The slots of a ring that are in use, as items come and go.
use Rattle.std.proofs.Common.{◌≡◌, ℕ, ◌+◌, ◌-◌, ◌%◌, ◌<◌, ◌≤◌, ◌⊎◌, List, [], ◌∷◌, ◌++◌, length, get_or, drop, set, ap, sym, refl, ◌∙◌, inl, inr, mod-eq_of_lt, arith, length-append, length-drop, length-set, length-take-le, get_or-drop, get_or-take}
use native.Mathlib.Nat.{mod-eq-sub-mod, mod-add-mod}
use Rattle.std.proofs.lemmas.List.{same_lists, get_or_append_left, get_or-append_right}
use Rattle.std.proofs.lemmas.Bool.{cases_lt}
use Rattle.std.proofs.lemmas.Grind.{common_steps}
use Rattle.units.specs.Windows.{window}

-- a place below 2 N wraps once at most
pub wraps : (N j : ℕ) → j < N + N → ((j < N) × (j % N ≡ j)) ⊎ ((N ≤ j) × (j % N ≡ j - N))
wraps N j below = elim (cases_lt j N) [
  | inl low ↦ inl (low, mod-eq_of_lt low)
  | inr high ↦ inr (high, mod-eq-sub-mod high ∙ mod-eq_of_lt (omega arith))
]

first_of : {X : Type 0} (xs : List X) (d : X) → 0 < length xs → xs ≡ get_or xs 0 d ∷ drop 1 xs
first_of [] d some = absurd (omega arith)
first_of (x ∷ xs) d some = refl

module _ {X : Type 0} (N k n : ℕ) (xs : List X) (start : k < N) (fits : n ≤ N) (long : length xs ≡ N) where
  pub length-window : length (window k n xs) ≡ n
  length-window = length-take-le n _ (simp (length-append, length-drop) (omega (arith, length-take-le k xs (omega arith))))

  -- item i of the window is slot (k + i) % N
  pub get_or-window : (i : ℕ) (d : X) → i < n → get_or (window k n xs) i d ≡ get_or xs ((k + i) % N) d
  get_or-window i d within =
      let length_tail = length-drop k xs in
      get_or-take n _ i d within ∙ elim (wraps N (k + i) (omega arith)) [
        | inl low ↦ get_or_append_left _ _ d i (omega arith) ∙ get_or-drop k xs i d ∙ ap (λ j. get_or xs j d) (omega arith)
        | inr high ↦ get_or-append_right _ _ (N - k) i d (omega arith) (omega arith) ∙ get_or-take k xs _ d (omega arith) ∙ ap (λ j. get_or xs j d) (omega arith)
      ]

module _ {X : Type 0} (N k n : ℕ) (xs : List X) (start : k < N) (fits : n ≤ N) (long : length xs ≡ N) where
  -- a write behind the last item adds it
  pub window_push : (x : X) → n < N → window k (n + 1) (set xs ((k + n) % N) x) ≡ window k n xs ++ x ∷ []
  window_push x room =
      let ys = set xs ((k + n) % N) x in
      let length_ys : length ys ≡ N = length-set xs ((k + n) % N) x ∙ long in
      let length_old = length-window N k n xs start fits long in
      let length_new = length-window N k (n + 1) ys start (omega arith) length_ys in
      let slot = wraps N (k + n) (omega arith) in
      same_lists _ _ (grind (arith, common_steps)) (λ i d within. grind (
        arith,
        common_steps,
        wraps N (k + i) (omega arith),
        get_or-window N k n xs start fits long i d,
        get_or-window N k (n + 1) ys start (omega arith) length_ys i d,
      ))

  -- without its first item the window begins one place on
  pub window_drop : 0 < n → drop 1 (window k n xs) ≡ window ((k + 1) % N) (n - 1) xs
  window_drop some =
      let next : (k + 1) % N < N = grind (arith, wraps N (k + 1) (omega arith)) in
      let length_old = length-window N k n xs start fits long in
      let length_new = length-window N ((k + 1) % N) (n - 1) xs next (omega arith) long in
      same_lists _ _ (simp length-drop (omega arith)) (λ i d within.
      let rest = length-drop 1 (window k n xs) in
      let on : (k + (1 + i)) % N ≡ ((k + 1) % N + i) % N = ap (λ j. j % N) (omega arith) ∙ sym (mod-add-mod (k + 1) N i) in
      get_or-drop 1 (window k n xs) i d ∙ get_or-window N k n xs start fits long (1 + i) d (omega arith)
      ∙ ap (λ j. get_or xs j d) on ∙ sym (get_or-window N ((k + 1) % N) (n - 1) xs next (omega arith) long i d (omega arith)))

  -- the first item is that of the first slot
  pub window_first : (d : X) → 0 < n → window k n xs ≡ get_or xs k d ∷ drop 1 (window k n xs)
  window_first d some =
      let long_window = length-window N k n xs start fits long in
      let here : (k + 0) % N ≡ k = ap (λ j. j % N) (omega arith) ∙ mod-eq_of_lt start in
      first_of (window k n xs) d (omega arith) ∙ ap (λ x. x ∷ drop 1 (window k n xs)) (get_or-window N k n xs start fits long 0 d some ∙ ap (λ j. get_or xs j d) here)
