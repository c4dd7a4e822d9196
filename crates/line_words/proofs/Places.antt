-- The first place at which a word refuses.
use Rattle.std.proofs.Common.{◌≡◌, ℕ, zero, suc, ◌+◌, ◌<◌, List, [], ◌∷◌, ◌++◌, length, get_or, take, refl, sym, ◌∙◌, ap, arith, Some, None, Option, slice_get, option_and_then, ◌⊎◌, inl, inr}
use Rattle.std.proofs.lemmas.List.{take_more}
use Rattle.gcode_words.specs.declared.Word.{Word}
use Rattle.line_words.specs.declared.index.Index.{Index}
use Rattle.line_words.specs.Passing.{IsPassed}
use Rattle.code_table.specs.declared.Code.{Code}
use Rattle.code_table.specs.Refusals.{first_below, or_else}
use Rattle.line_words.specs.WordRefusals.{refusal_at, word_refusal, words_refusal}

found : {A : Type 0} (xs : List A) (k : ℕ) (d : A) → k < length xs → slice_get xs k ≡ Some (get_or xs k d)
found [] k d h = absurd (omega arith)
found (x ∷ xs) zero d h = refl
found (x ∷ xs) (suc k) d h = found xs k d (omega arith)

pub refusal_is : (ws : List Word) (k : ℕ) (d : Word) → k < length ws → word_refusal (take k ws) (get_or ws k d) ≡ refusal_at ws k
unfolding refusal_at
refusal_is ws k d h = sym (ap (option_and_then (word_refusal (take k ws))) (found ws k d h))

pub none_below : (n : ℕ) (f : ℕ → Option Code) → ((k : ℕ) → k < n → f k ≡ None) → first_below n f ≡ None
none_below zero f h = refl
none_below (suc n) f h = rw (none_below n f (λ k l. h k (omega arith))) (h n (omega arith))

here_or_below : (n k : ℕ) → k < suc n → (k < n) ⊎ (k ≡ n)
here_or_below zero zero h = inr refl
here_or_below zero (suc k) h = absurd (omega arith)
here_or_below (suc n) zero h = inl (omega arith)
here_or_below (suc n) (suc k) h = elim (here_or_below n k (omega arith)) [ inl l ↦ inl (omega (arith, l)) | inr e ↦ inr (ap suc e) ]

pub some_below : (n k : ℕ) (f : ℕ → Option Code) (code : Code) → k < n → ((i : ℕ) → i < k → f i ≡ None) → f k ≡ Some code → first_below n f ≡ Some code
some_below zero k f code h passed refused = absurd (omega arith)
some_below (suc n) k f code h passed refused =
    elim (here_or_below n k h) [
      | inl below ↦ rw (some_below n k f code below passed refused) refl
      | inr same ↦ rw (none_below n f (λ i l. passed i (omega (arith, same)))) (ap f (sym same) ∙ refused)
    ]

pub first_is : (ws : List Word) (k : ℕ) (code : Code) → k < length ws → ((i : ℕ) → i < k → refusal_at ws i ≡ None) → refusal_at ws k ≡ Some code → words_refusal ws ≡ Some code
unfolding words_refusal
first_is ws k code h passed refused = some_below (length ws) k (refusal_at ws) code h passed refused

pub none_is : (ws : List Word) → ((i : ℕ) → i < length ws → refusal_at ws i ≡ None) → words_refusal ws ≡ None
unfolding words_refusal
none_is ws passed = none_below (length ws) (refusal_at ws) passed

pub got : (ws : List Word) (place : ℕ) (d : Word) → place < length ws → slice_get ws place ≡ Some (get_or ws place d)
got ws place d h = found ws place d h

-- one more word has passed
pub grown : (index : Index) (ws : List Word) (place : ℕ) (d : Word) → place < length ws → IsPassed index ws (take place ws ++ get_or ws place d ∷ []) → IsPassed index ws (take (place + 1) ws)
grown index ws place d h passed = rw (take_more ws place d h) passed

neither : (first second : Option Code) → or_else first second ≡ None → (first ≡ None) × (second ≡ None)
neither (Some code) second e = absurd cc
neither None second e = (refl, e)

-- where nothing refuses at all places, nothing does at each
pub none_each : (n k : ℕ) (f : ℕ → Option Code) → first_below n f ≡ None → k < n → f k ≡ None
none_each zero k f none h = absurd (omega arith)
none_each (suc n) k f none h =
    let both = neither (first_below n f) (f n) none in
    elim (here_or_below n k h) [ inl below ↦ none_each n k f both.0 below | inr same ↦ ap f same ∙ both.1 ]

pub each_passes : (ws : List Word) (k : ℕ) → words_refusal ws ≡ None → k < length ws → refusal_at ws k ≡ None
unfolding words_refusal
each_passes ws k none h = none_each (length ws) k (refusal_at ws) none h
