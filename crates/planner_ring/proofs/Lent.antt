-- What the loan of a tail says.
use Rattle.std.proofs.Common.{◌≡◌, ◌≢◌, ℕ, ◌<◌, ◌≤◌, ◌⊎◌, ◌↔◌, inl, inr, List, [], ◌∷◌, length, get_or, set, take, drop, Some, None, IsSome, IsNone, IfSome, refl, sym, ap, ◌∙◌, arith, Bor, MutBor, length-set, length-take-le, get_or-take, get_or-set_same, get_or-set_other}
use Rattle.std.proofs.lemmas.Bool.{cases_eq}
use Rattle.std.proofs.lemmas.List.{same_lists}
use Rattle.std.specs.declared.option.Option.{Option}
use Rattle.std.specs.Option.{ghost_name_of}
use Rattle.std.specs.Slice.{IsItemAt}
use borrow.Follows.Closed.{read_of}
use Rattle.planner_ring.specs.Windows.{between, HasRing}
use Rattle.planner_ring.proofs.Places.{some_of, empty_of, between_set, between_first}

-- two readings of a loan
read_same : {X : Type 0} (o : Option (MutBor X)) (F G : X → List X) (v u : List X)
    → (IsSome o → (w : X) → F w ≡ G w) → v ≡ u → read_of (ghost_name_of o) F v ≡ read_of (ghost_name_of o) G u
read_same None F G v u h e = ap inr e
read_same (Some r) F G v u h e = λ i. inl (r.ghost_name, λ w. h refl w i)

-- a write among the first of some slots
pub take_set : {X : Type 0} (n i : ℕ) (xs : List X) (x : X) → i < n → n ≤ length xs → take n (set xs i x) ≡ set (take n xs) i x
take_set n i xs x within room =
    let long = length-set xs i x in
    let first = length-take-le n xs room in
    let written = length-take-le n (set xs i x) (omega (arith, long, room)) in
    let changed = length-set (take n xs) i x in
    same_lists _ _ (omega (arith, first, written, changed)) (λ j d inside.
    let low : j < n = omega (arith, inside, written) in
    get_or-take n (set xs i x) j d low ∙ elim (cases_eq j i) [
      | inl same ↦ ap (λ k. get_or (set xs i x) k d) same ∙ get_or-set_same xs i x d (omega (arith, within, room))
          ∙ sym (get_or-set_same (take n xs) i x d (omega (arith, within, first))) ∙ ap (λ k. get_or (set (take n xs) i x) k d) (sym same)
      | inr apart ↦ get_or-set_other xs i j x d apart ∙ sym (get_or-take n xs j d low) ∙ sym (get_or-set_other (take n xs) i j x d apart)
    ])

module _ {X : Type 0} (N k f place : ℕ) (xs now : List X) (is : HasRing N k f xs) (view : between N k f (take N xs) ≡ now) (asked : ((k ≡ f) × (place ≡ 64)) ⊎ ((k ≢ f) × (place ≡ k))) where
  within_of : place < length xs → (place ≡ k) × (0 < length (between N k f (take N xs)))
  within_of lt = let long = is.all in elim asked [
    | inl none ↦ absurd (omega (arith, none.1, lt, long))
    | inr some ↦ (some.1, some_of N k f (take N xs) is.ring some.0)
  ]

  -- the slot of the tail
  first_slot : (d : X) → get_or (take N xs) k d ≡ get_or xs k d
  first_slot d = get_or-take N xs k d is.ring.first

  written : (w : X) → take N (set xs k w) ≡ set (take N xs) k w
  written w = let long = is.all in let few = is.ring.few in take_set N k xs w is.ring.first (omega (arith, long, few))

  pub lent_back : (o : Option (MutBor X)) → (IsSome o ↔ (place < length xs))
      → read_of (ghost_name_of o) (λ w. between N k f (take N (set xs place w))) (between N k f (take N xs)) ≡ read_of (ghost_name_of o) (λ b. b ∷ drop 1 now) now
  lent_back o variant = read_same o _ _ _ _ (λ some w.
      let at = within_of (variant.0 some) in
      ap (λ j. between N k f (take N (set xs j w))) at.0 ∙ ap (between N k f) (written w) ∙ between_set N k f (take N xs) is.ring w at.1 ∙ ap (λ bs. w ∷ drop 1 bs) view) view

  pub none_where : (o : Option (MutBor X)) → (IsSome o ↔ (place < length xs)) → IsNone o ↔ (now ≡ [])
  none_where None variant = (
    λ _. elim asked [
      | inl none ↦ sym view ∙ empty_of N k f (take N xs) is.ring none.0
      | inr some ↦ let lt : place < length xs = let at = is.ring.first in let few = is.ring.few in let long = is.all in omega (arith, some.1) in let no = variant.1 lt in cc
    ],
    λ _. refl,
  )
  none_where (Some r) variant = (
    λ no. cc,
    λ empty. let at = within_of (variant.0 refl) in absurd (omega (arith, ap length (view ∙ empty), at.1)),
  )

  pub some_where : (o : Option (MutBor X)) → (IsSome o ↔ (place < length xs)) → IfSome o (λ b. b.now ≡ get_or xs place b.now) → IfSome o (λ b. now ≡ b.now ∷ drop 1 now)
  some_where None variant value = tt
  some_where (Some r) variant value =
      let at = within_of (variant.0 refl) in
      let first = between_first N k f (take N xs) is.ring r.now at.1 in
      sym view ∙ first ∙ ap (λ x. x ∷ drop 1 (between N k f (take N xs))) (first_slot r.now ∙ ap (λ j. get_or xs j r.now) (sym at.0) ∙ sym value) ∙ ap (λ bs. r.now ∷ drop 1 bs) view

  pub read_where : (o : Option (Bor X)) → IsItemAt xs place o → IfSome o (λ b. now ≡ b.now ∷ drop 1 now)
  read_where None item = tt
  read_where (Some r) item =
      let at = within_of item.3.0 in
      let first = between_first N k f (take N xs) is.ring r.now at.1 in
      sym view ∙ first ∙ ap (λ x. x ∷ drop 1 (between N k f (take N xs))) (first_slot r.now ∙ ap (λ j. get_or xs j r.now) (sym at.0) ∙ sym item.1) ∙ ap (λ bs. r.now ∷ drop 1 bs) view
