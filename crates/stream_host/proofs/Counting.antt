-- The lengths of the lines that have no answer, as two lists.
use Rattle.std.proofs.Common.{◌≡◌, ℕ, ◌+◌, List, [], ◌∷◌, ◌++◌, reverse, sum, sym, ap, ◌∙◌, arith, append_assoc}
use Rattle.std.proofs.lemmas.List.{reverse-append}
use Rattle.std.proofs.lemmas.List.Sums.{sum_by-append, sum_by-cons}

pub sum_push : (xs : List ℕ) (x : ℕ) → sum (xs ++ x ∷ []) ≡ sum xs + x
sum_push xs x = let e = sum_by-append (λ y. y) xs (x ∷ []) in omega arith

pub sum_first : (x : ℕ) (xs : List ℕ) → sum (x ∷ xs) ≡ x + sum xs
sum_first x xs = sum_by-cons (λ y. y) x xs

-- the oldest is the last of those that are older
pub oldest : (older rest newer : List ℕ) (x : ℕ) → older ≡ rest ++ x ∷ [] → reverse older ++ newer ≡ x ∷ (reverse rest ++ newer)
oldest older rest newer x e = ap (λ (l : List ℕ). l ++ newer) (ap reverse e ∙ reverse-append rest (x ∷ []))

pub turned_over : (older new newer : List ℕ) (x : ℕ) (rest : List ℕ) → newer ≡ rest ++ x ∷ [] → new ≡ older ++ reverse newer → new ≡ (older ++ x ∷ []) ++ reverse rest
turned_over older new newer x rest e is = is ∙ ap (λ (l : List ℕ). older ++ l) (ap reverse e ∙ reverse-append rest (x ∷ [])) ∙ sym (append_assoc older (x ∷ []) (reverse rest))
