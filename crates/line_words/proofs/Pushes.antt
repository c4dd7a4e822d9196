-- One more word.
use Rattle.std.proofs.Common.{◌≡◌, ℕ, Bool, true, false, List, [], ◌∷◌, ◌++◌, ◌||◌, ◌==◌, find, refl, sym, ◌∙◌, ap, Option, Some, None, is_some, option_map}
use Rattle.std.specs.List.{list_any}
use Rattle.std.specs.Option.{option_or}
use Rattle.std.proofs.lemmas.List.Folds.{find-append, list_any-append}
use Rattle.gcode_words.specs.declared.Word.{Word}
use Rattle.line_words.specs.Given.{stands, given}
use Rattle.line_words.proofs.Letters.{stands_given}

pub any_push : (test : Word → Bool) (ws : List Word) (w : Word) → test w ≡ false → list_any test (ws ++ w ∷ []) ≡ list_any test ws
any_push test ws w e = list_any-append test ws (w ∷ []) ∙ rw e (or_none (list_any test ws))
  where
    or_none : (b : Bool) → (b || (false || false)) ≡ b
    or_none true = refl
    or_none false = refl

pub any_push_true : (test : Word → Bool) (ws : List Word) (w : Word) → test w ≡ true → list_any test (ws ++ w ∷ []) ≡ true
any_push_true test ws w e = list_any-append test ws (w ∷ []) ∙ rw e (or_one (list_any test ws))
  where
    or_one : (b : Bool) → (b || (true || false)) ≡ true
    or_one true = refl
    or_one false = refl

pub any_push_first : (test : Word → Bool) (ws : List Word) (w : Word) → list_any test ws ≡ false → list_any test (ws ++ w ∷ []) ≡ test w
any_push_first test ws w e = list_any-append test ws (w ∷ []) ∙ rw e (or_last (test w))
  where
    or_last : (b : Bool) → (false || (b || false)) ≡ b
    or_last true = refl
    or_last false = refl

or_nothing : {A : Type 0} (o : Option A) → option_or o None ≡ o
or_nothing None = refl
or_nothing (Some x) = refl

-- another letter's value stays
pub given_push_other : (letter : ℕ) (ws : List Word) (w : Word) → (w.letter == letter) ≡ false → given letter (ws ++ w ∷ []) ≡ given letter ws
given_push_other letter ws w e =
    ap (option_map (λ (v : Word). v.value)) (find-append (λ v. v.letter == letter) ws (w ∷ []) ∙ rw e (or_nothing (find (λ v. v.letter == letter) ws)))

not_found : (o : Option Word) → is_some (option_map (λ (v : Word). v.value) o) ≡ false → o ≡ None
not_found None e = refl
not_found (Some v) e = absurd cc

-- the value of a letter that stood nowhere
pub given_push_first : (letter : ℕ) (ws : List Word) (w : Word) → (w.letter == letter) ≡ true → stands letter ws ≡ false → given letter (ws ++ w ∷ []) ≡ Some w.value
given_push_first letter ws w e none =
    let nothing = not_found (find (λ v. v.letter == letter) ws) (sym (stands_given letter ws) ∙ none) in
    let found : find (λ (v : Word). v.letter == letter) (ws ++ w ∷ []) ≡ Some w = find-append (λ v. v.letter == letter) ws (w ∷ []) ∙ rw (nothing, e) refl in
    ap (option_map (λ (v : Word). v.value)) found

pub any_push_or : (test : Word → Bool) (ws : List Word) (w : Word) → list_any test (ws ++ w ∷ []) ≡ (list_any test ws || test w)
any_push_or test ws w = list_any-append test ws (w ∷ []) ∙ ap (λ b. list_any test ws || b) (or_end (test w))
  where
    or_end : (b : Bool) → (b || false) ≡ b
    or_end true = refl
    or_end false = refl
