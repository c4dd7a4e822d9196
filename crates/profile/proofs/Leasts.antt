-- The least of finitely many numbers.
use Rattle.std.proofs.Common.{◌≡◌, ℕ, zero, suc, ◌+◌, ◌≤◌, ◌<◌, min, inl, inr, refl, arith, subst}
use Rattle.std.proofs.lemmas.Bool.{cases_lt}
use Rattle.std.proofs.Math.Nat.{le_antisymm}
use Rattle.profile.specs.Profiles.{least, distance}

-- v is the least of f lo .. f hi
pub record IsLeast (f : ℕ → ℕ) (lo hi v : ℕ) : Type 0 where
  pub below : (k : ℕ) → lo ≤ k → k ≤ hi → v ≤ f k
  pub reached : (k : ℕ) × (lo ≤ k) × (k ≤ hi) × (f k ≡ v)

pub least_le : (f : ℕ → ℕ) (n k : ℕ) → k ≤ n → least f n ≤ f k
unfolding least
least_le f zero k h = let e : zero ≡ k = omega arith in subst (λ i. f zero ≤ f i) e (omega arith)
least_le f (suc n) k h =
    elim (cases_lt k (suc n)) [
      | inl l ↦ let below = least_le f n k (omega arith) in omega arith
      | inr l ↦ let e : suc n ≡ k = omega arith in subst (λ i. min (least f n) (f (suc n)) ≤ f i) e (omega arith)
    ]

pub least_at : (f : ℕ → ℕ) (n : ℕ) → (k : ℕ) × (k ≤ n) × (f k ≡ least f n)
unfolding least
least_at f zero = (zero, omega arith, refl)
least_at f (suc n) =
    let was = least_at f n in
    elim (cases_lt (least f n) (f (suc n))) [
      | inl l ↦ (was.0, omega arith, omega (arith, was.2))
      | inr l ↦ (suc n, omega arith, omega arith)
    ]

pub least_is : (f : ℕ → ℕ) (n : ℕ) → IsLeast f 0 n (least f n)
least_is f n = let at = least_at f n in record { below = λ k _ h. least_le f n k h; reached = (at.0, omega arith, at.1, at.2) }

pub least_from : (f : ℕ → ℕ) (n v : ℕ) → IsLeast f 0 n v → v ≡ least f n
least_from f n v is =
    let at = least_at f n in
    let le : v ≤ least f n = rw at.2 at (is.below at.0 (omega arith) at.1) in
    let ge : least f n ≤ v = rw is.reached.3 at (least_le f n is.reached.0 is.reached.2) in
    le_antisymm le ge

-- what the cap of point k allows at point j, with caps C and places S
abbrev pub reach : (ℕ → ℕ) → (ℕ → ℕ) → ℕ → ℕ → ℕ
reach C S j k = C k + distance (S k) (S j)

module _ (C S : ℕ → ℕ) (b : ℕ) (rising : (i j : ℕ) → i ≤ j → S i ≤ S j) where
  pub back_last : IsLeast (reach C S b) b b (C b)
  back_last = record {
    below = λ k l h. let e : b ≡ k = omega arith in subst (λ i. C b ≤ reach C S b i) e (omega arith);
    reached = (b, omega arith, omega arith, omega arith);
  }

  pub back_step : (j d v : ℕ) → j < b → S (j + 1) ≡ S j + d → IsLeast (reach C S (j + 1)) (j + 1) b v
      → IsLeast (reach C S j) j b (min (C j) (v + d))
  back_step j d v h gap is = record {
    below = λ k l u. elim (cases_lt j k) [
      | inl m ↦ let le = is.below k (omega arith) u in let up = rising (j + 1) k (omega arith) in omega arith
      | inr m ↦ let e : j ≡ k = omega arith in subst (λ i. min (C j) (v + d) ≤ reach C S j i) e (omega arith)
    ];
    reached = elim (cases_lt (C j) (v + d)) [
      | inl m ↦ (j, omega arith, omega arith, omega arith)
      | inr m ↦
          let up = rising (j + 1) is.reached.0 is.reached.1 in
          (is.reached.0, omega (arith, is.reached.1), is.reached.2, omega (arith, is.reached.3))
    ];
  }

  pub forward_step : (j d e v : ℕ) → j < b → S (j + 1) ≡ S j + d → IsLeast (reach C S j) 0 b e
      → IsLeast (reach C S (j + 1)) (j + 1) b v → IsLeast (reach C S (j + 1)) 0 b (min v (e + d))
  forward_step j d e v h gap before is = record {
    below = λ k l u. elim (cases_lt j k) [
      | inl m ↦ let le = is.below k (omega arith) u in omega arith
      | inr m ↦ let le = before.below k l u in let up = rising k j m in omega arith
    ];
    reached = elim (cases_lt (e + d) v) [
      | inr m ↦ (is.reached.0, omega arith, is.reached.2, omega (arith, is.reached.3))
      | inl m ↦ elim (cases_lt j before.reached.0) [
        | inr n ↦
            let up = rising before.reached.0 j n in
            (before.reached.0, omega arith, before.reached.2, omega (arith, before.reached.3))
        | inl n ↦
            let le = is.below before.reached.0 (omega arith) before.reached.2 in
            let up = rising (j + 1) before.reached.0 (omega arith) in
            absurd (omega (arith, before.reached.3))
      ]
    ];
  }
