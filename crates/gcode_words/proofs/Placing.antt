-- A word that is put at a place.
use Rattle.std.proofs.Common.{◌≡◌, ℕ, ◌+◌, ◌<◌, List, [], ◌∷◌, ◌++◌, length, length-set, take, drop, set, sym, ap, ◌∙◌, arith, length-append}
use Rattle.std.specs.List.{refill}
use Rattle.std.proofs.Math.Seq.{take-append_seam}
use Rattle.std.proofs.lemmas.List.{take_all, take_more_set}

-- a word that is written through a slice of all words
refill_set : {X : Type 0} (xs ys : List X) (i : ℕ) (x : X) → ys ≡ xs → refill (length xs) xs (set ys i x) ≡ set xs i x
refill_set xs ys i x same =
    let long : length (set ys i x) ≡ length xs = length-set ys i x ∙ ap length same in
    ap (λ n. take n (set ys i x ++ drop (length (set ys i x)) xs)) (sym long) ∙ take-append_seam (set ys i x) _ ∙ ap (λ l. set l i x) same

-- over another
pub over_another : {X : Type 0} (xs ys : List X) (i : ℕ) (x : X) → ys ≡ xs → i < length xs → take (i + 1) (refill (length xs) xs (set ys i x)) ≡ take i xs ++ x ∷ []
over_another xs ys i x same within = ap (take (i + 1)) (refill_set xs ys i x same) ∙ take_more_set xs i x within

-- behind the last
pub behind_last : {X : Type 0} (xs : List X) (n : ℕ) (x : X) → n ≡ length xs → take (n + 1) (xs ++ x ∷ []) ≡ take n xs ++ x ∷ []
behind_last xs n x last =
    take_all (n + 1) (xs ++ x ∷ []) (simp length-append (omega arith)) ∙ ap (λ ys. ys ++ x ∷ []) (sym (take_all n xs (omega arith)))
