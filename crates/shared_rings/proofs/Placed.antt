-- What stands at a place of a log.
use Rattle.std.proofs.Common.{◌≡◌, ◌≢◌, ℕ, ◌+◌, ◌<◌, ◌⊎◌, Bool, true, false, cond, nat_eq, List, [], ◌∷◌, ◌++◌, length, sym, refl, ap, ◌∙◌, inl, inr, arith, length-append}
use mathlib.Core.Option.{some, some-injective, some-ne-none}
use Rattle.shared_rings.specs.Placed.{placed}

pub by_bool : {Q : Type 0} (b : Bool) → (b ≡ true → Q) → (b ≡ false → Q) → Q
by_bool true holds fails = holds refl
by_bool false holds fails = fails refl

pub same_number : (j k : ℕ) → nat_eq j k ≡ true → j ≡ k
same_number j k e = grind (arith, e)

pub other_number : (j k : ℕ) → nat_eq j k ≡ false → j ≢ k
other_number j k e p = grind (arith, e, p)

module _ {A : Type 0} where
  pub placed_below : (h : List A) (k : ℕ) (a : A) → placed h k ≡ some a → k < length h
  placed_below [] k a e = absurd (some-ne-none a (sym e))
  placed_below (x ∷ h) k a e = by_bool (nat_eq k (length h))
      (λ t. let same = same_number k (length h) t in omega arith)
      (λ f. let b = placed_below h k a (ap (λ b. cond b (some x) (placed h k)) (sym f) ∙ e) in omega arith)

  pub placed_last : (h : List A) (x a : A) (k : ℕ) → placed (x ∷ h) k ≡ some a → (placed h k ≡ some a) ⊎ ((k ≡ length h) × (x ≡ a))
  placed_last h x a k e = by_bool (nat_eq k (length h))
      (λ t. inr (same_number k (length h) t, some-injective x a (ap (λ b. cond b (some x) (placed h k)) (sym t) ∙ e)))
      (λ f. inl (ap (λ b. cond b (some x) (placed h k)) (sym f) ∙ e))

  pub placed_here : (h : List A) (x : A) → placed (x ∷ h) (length h) ≡ some x
  placed_here h x = by_bool (nat_eq (length h) (length h))
      (λ t. ap (λ b. cond b (some x) (placed h (length h))) t)
      (λ f. absurd (other_number (length h) (length h) f refl))

  -- the first that was not got
  pub next_placed : (sent rest got : List A) → sent ≡ rest ++ got → length got < length sent
      → (x : A) × (rest' : List A) × (placed sent (length got) ≡ some x) × (sent ≡ rest' ++ x ∷ got) × (length rest ≡ length rest' + 1)
  next_placed sent [] got e more = absurd (let l = ap length e in omega arith)
  next_placed sent (y ∷ []) got e more = (y, [], ap (λ (s : List A). placed s (length got)) e ∙ placed_here got y, e, refl)
  next_placed sent (y ∷ z ∷ rest) got e more =
      let l = length-append (z ∷ rest) got in
      let deeper = next_placed ((z ∷ rest) ++ got) (z ∷ rest) got refl (omega arith) in
      let at : placed (y ∷ (z ∷ rest) ++ got) (length got) ≡ placed ((z ∷ rest) ++ got) (length got) =
      by_bool (nat_eq (length got) (length ((z ∷ rest) ++ got)))
      (λ t. absurd (let s = same_number _ _ t in omega arith))
      (λ f. ap (λ b. cond b (some y) (placed ((z ∷ rest) ++ got) (length got))) f) in
      (deeper.0, y ∷ deeper.1, ap (λ (s : List A). placed s (length got)) e ∙ (at ∙ deeper.2), e ∙ ap (λ (s : List A). y ∷ s) deeper.3, (let m = deeper.4 in omega arith))

  -- one item more leaves the others where they stand
  pub placed_other : (h : List A) (x a : A) (k : ℕ) → placed h k ≡ some a → placed (x ∷ h) k ≡ some a
  placed_other h x a k e = let b = placed_below h k a e in by_bool (nat_eq k (length h))
      (λ t. absurd (let s = same_number k (length h) t in omega arith))
      (λ f. ap (λ b. cond b (some x) (placed h k)) f ∙ e)

  pub some_placed : (h : List A) (k : ℕ) → k < length h → (a : A) × (placed h k ≡ some a)
  some_placed [] k lt = absurd (omega arith)
  some_placed (x ∷ h) k lt = by_bool (nat_eq k (length h))
      (λ t. (x, ap (λ b. cond b (some x) (placed h k)) t))
      (λ f. let other = other_number k (length h) f in let deeper = some_placed h k (omega arith) in (deeper.0, placed_other h x deeper.0 k deeper.1))
