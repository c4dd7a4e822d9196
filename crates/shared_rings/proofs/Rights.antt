-- A right stays with one seat through steps, and goes to one seat when seats are split and joined.
use Rattle.std.proofs.Common.{◌≡◌, ◌≢◌, ℕ, Bool, true, false, List, [], ◌∷◌, ◌++◌, length, set, sym, ap, ◌∙◌, subst, ⊎_elim}
use Rattle.atomic_table.proofs.Lists.{at_set}
use Rattle.shared_rings.specs.Rights.{Sole}
use Rattle.shared_rings.proofs.Finds.{at_end, only_one}

module _ {V : Type 0} (may : V → Bool) where
  abbrev Here : ℕ → (V → Type 0) → ℕ → V → Type 0
  Here owner Knows j v = may v ≡ true → (j ≡ owner) × Knows v

  same_seat : (owner : ℕ) (Knows : V → Type 0) (i j : ℕ) (w v : V) → j ≡ i → w ≡ v → Here owner Knows i w → Here owner Knows j v
  same_seat owner Knows i j w v e p here = let P : ℕ × V → Type 0 = λ z. Here owner Knows z.0 z.1 in subst P (λ k. (sym e k, p k)) here

  hasnt : {Q : Type 0} (w v : V) → w ≡ v → may w ≡ false → may v ≡ true → Q
  hasnt w v e lacks mine = absurd (let f : false ≡ true = sym lacks ∙ (ap may e ∙ mine) in cc)

  -- one seat steps
  pub steps : (views : List V) (owner : ℕ) (Knew Knows : V → Type 0) (id : ℕ) (w : V) → Sole views may owner Knew → Here owner Knows id w
      → ((j : ℕ) (v : V) → j ≢ id → j ≡ owner → Knew v → Knows v) → Sole (set views id w) may owner Knows
  steps views owner Knew Knows id w sole own others j v at mine = ⊎_elim
      (λ t. same_seat owner Knows id j w v t.0 t.1 own mine)
      (λ t. let k = sole j v t.1 mine in (k.0, others j v t.0 k.0 k.1)) (at_set views id j w v at)

  -- the one that has the right steps
  pub steps_own : (views : List V) (owner : ℕ) (Knew Knows : V → Type 0) (id : ℕ) (w : V) → Sole views may owner Knew → id ≡ owner → (may w ≡ true → Knows w)
      → Sole (set views id w) may owner Knows
  steps_own views owner Knew Knows id w sole me own = steps views owner Knew Knows id w sole (λ m. (me, own m)) (λ j v apart is k. absurd (apart (is ∙ sym me)))

  pub starts : (Knows : V → Type 0) (w : V) → Knows w → Sole (w ∷ []) may 0 Knows
  starts Knows w known j v at mine = let o = only_one w v j at in (o.0, subst Knows o.1 known)

  -- the first of the two seats has the right
  pub splits_left : (views : List V) (owner : ℕ) (Knows : V → Type 0) (id : ℕ) (left right : V) → Sole views may owner Knows → id ≡ owner → Knows left → may right ≡ false
      → Sole (set views id left ++ right ∷ []) may owner Knows
  splits_left views owner Knows id left right sole me known lacks j v at mine = ⊎_elim
      (λ a. steps_own views owner Knows Knows id left sole me (λ m. known) j v a mine)
      (λ a. hasnt right v a.1 lacks mine) (at_end (set views id left) right v j at)

  -- the second has it
  pub splits_right : (views : List V) (owner : ℕ) (Knows : V → Type 0) (id : ℕ) (left right : V) → Sole views may owner Knows → id ≡ owner → may left ≡ false → Knows right
      → Sole (set views id left ++ right ∷ []) may (length (set views id left)) Knows
  splits_right views owner Knows id left right sole me lacks known j v at mine = ⊎_elim
      (λ a. ⊎_elim (λ b. hasnt left v b.1 lacks mine) (λ b. absurd (b.0 ((sole j v b.1 mine).0 ∙ sym me))) (at_set views id j left v a))
      (λ a. (a.0, subst Knows a.1 known)) (at_end (set views id left) right v j at)

  -- the seat that is left had the right
  pub joins_left : (views : List V) (owner : ℕ) (Knows : V → Type 0) (id other : ℕ) (both spent : V) → Sole views may owner Knows → id ≡ owner → Knows both → may spent ≡ false
      → Sole (set (set views id both) other spent) may owner Knows
  joins_left views owner Knows id other both spent sole me known lacks j v at mine = ⊎_elim
      (λ a. hasnt spent v a.1 lacks mine)
      (λ a. steps_own views owner Knows Knows id both sole me (λ m. known) j v a.1 mine) (at_set (set views id both) other j spent v at)

  -- the other had it
  pub joins_right : (views : List V) (owner : ℕ) (Knows : V → Type 0) (id other : ℕ) (both spent : V) → Sole views may owner Knows → other ≡ owner → Knows both → may spent ≡ false
      → Sole (set (set views id both) other spent) may id Knows
  joins_right views owner Knows id other both spent sole me known lacks j v at mine = ⊎_elim
      (λ a. hasnt spent v a.1 lacks mine)
      (λ a. ⊎_elim (λ b. (b.0, subst Knows b.1 known)) (λ b. absurd (a.0 ((sole j v b.1 mine).0 ∙ sym me))) (at_set views id j both v a.1))
      (at_set (set views id both) other j spent v at)
