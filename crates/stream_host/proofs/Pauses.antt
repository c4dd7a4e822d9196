-- The pauses of a text are the words `M0` that it spells.
use Rattle.std.proofs.Common.{◌≡◌, ◌∙◌, ◌<◌, ◌⊎◌, ◌&&◌, ◌||◌, not, ℕ, ◌+◌, suc, Bool, true, false, cond, List, [], ◌∷◌, ◌++◌, length, Ok, Err, nat_eq, nat_le, refl, sym, ap, subst, inl, inr, arith}
use Rattle.std.specs.Prelude.{nat_abs}
use Rattle.std.specs.List.{AllPass, list_any}
use Rattle.units.specs.Decimals.{NumberText, IsNumberText, letters_of, has_digit, is_digit, millionths, signed}
use Rattle.units.specs.Reading.{decimal_from, read_as}
use Rattle.units.specs.declared.Decimal.{Decimal}
use Rattle.units.specs.declared.NumFault.TheVariants.{NoDigit, TooLarge}
use Rattle.units.proofs.Longest.{front_is}
use Rattle.gcode_words.specs.Words.{IsWord, Spells}
use Rattle.gcode_words.specs.declared.Word.{Word}
use Rattle.host_journal.specs.Holding.{begins_zero, has_pause, is_pause, is_zero}

-- ---- a text without an `M` has no pause

abbrev others : List ℕ → Bool
others [] = true
others (c ∷ cs) = not (nat_eq c 77) && others cs

others_join : (xs ys : List ℕ) → others xs ≡ true → others ys ≡ true → others (xs ++ ys) ≡ true
others_join [] ys first second = second
others_join (c ∷ cs) ys first second = go (nat_eq c 77) first (λ h. others_join cs ys h second)
  where
    go : (b : Bool) → (not b && others cs) ≡ true → (others cs ≡ true → others (cs ++ ys) ≡ true) → (not b && others (cs ++ ys)) ≡ true
    go true h later = absurd cc
    go false h later = later h

-- such a text may be left out
skip : (xs rest : List ℕ) → others xs ≡ true → has_pause (xs ++ rest) ≡ has_pause rest
skip [] rest h = refl
skip (c ∷ cs) rest h = go (nat_eq c 77) h (skip cs rest)
  where
    go : (b : Bool) → (not b && others cs) ≡ true → (others cs ≡ true → has_pause (cs ++ rest) ≡ has_pause rest) → ((b && begins_zero (cs ++ rest)) || has_pause (cs ++ rest)) ≡ has_pause rest
    go true h later = absurd cc
    go false h later = later h

no_digit : (c : ℕ) → is_digit c ≡ true → nat_eq c 77 ≡ false
no_digit c h = grind arith

digits_have_none : (xs : List ℕ) → AllPass is_digit xs → others xs ≡ true
digits_have_none [] h = refl
digits_have_none (c ∷ cs) h = rw (no_digit c (h 0 0 (omega arith))) (digits_have_none cs (λ k d l. h (suc k) d (omega arith)))

sign_has_none : (xs : List ℕ) → (xs ≡ []) ⊎ (xs ≡ 43 ∷ []) ⊎ (xs ≡ 45 ∷ []) → others xs ≡ true
sign_has_none xs (inl none) = ap others none
sign_has_none xs (inr (inl plus)) = ap others plus
sign_has_none xs (inr (inr minus)) = ap others minus

point_has_none : (xs : List ℕ) → (xs ≡ []) ⊎ (xs ≡ 46 ∷ []) → others xs ≡ true
point_has_none xs (inl none) = ap others none
point_has_none xs (inr point) = ap others point

number_has_none : (t : NumberText) → IsNumberText t → others (letters_of t) ≡ true
number_has_none t is =
    others_join (t.sign ++ t.whole ++ t.point) t.part
    (others_join (t.sign ++ t.whole) t.point (others_join t.sign t.whole (sign_has_none t.sign is.sign) (digits_have_none t.whole is.whole)) (point_has_none t.point is.point))
    (digits_have_none t.part is.part)

-- ---- a word

-- a number with a digit that is not too large is read
read_through : (digit large : Bool) (found : Decimal × ℕ) → digit ≡ true → large ≡ false
    → is_zero (cond (not digit) (Err NoDigit) (cond large (Err TooLarge) (Ok found))) ≡ nat_eq (nat_abs found.0.micro) 0
read_through true false found e f = refl
read_through false large found e f = absurd cc
read_through true true found e f = absurd cc

not_large : (m : ℕ) → m < 1000000000000000 → nat_le 1000000000000000 m ≡ false
not_large m h = grind arith

zero_read : (front back : List ℕ) (w : Word) (word : IsWord front w back) → begins_zero (letters_of word.number ++ back) ≡ nat_eq (nat_abs w.value.micro) 0
unfolding decimal_from
zero_read front back w word =
    let found : Decimal × ℕ = (record { micro = signed word.number.sign (millionths word.number) }, 0 + length (letters_of word.number)) in
    ap (λ t. is_zero (read_as 0 t)) word.longest
    ∙ read_through (has_digit word.number) (nat_le 1000000000000000 (millionths word.number)) found word.digit (not_large (millionths word.number) word.small)
    ∙ ap (λ m. nat_eq (nat_abs m) 0) (sym word.value)

word_pauses : (front back : List ℕ) (w : Word) → IsWord front w back → has_pause (front ++ back) ≡ (is_pause w || has_pause back)
word_pauses front back w word =
    let text = letters_of word.number in
    let number : IsNumberText word.number = subst IsNumberText word.longest (front_is (text ++ back)).0 in
    let zero = zero_read front back w word in
    let later = skip text back (number_has_none word.number number) in
    ap (λ t. has_pause (t ++ back)) word.whole
    ∙ ap (λ z. (nat_eq w.letter 77 && z) || has_pause (text ++ back)) zero
    ∙ ap (λ p. is_pause w || p) later

-- ---- words

pub words_pause : (text : List ℕ) (words : List Word) → Spells text words → has_pause text ≡ list_any is_pause words
words_pause text [] is = ap has_pause is
words_pause text (w ∷ words) (front, back, is, word, rest) =
    ap has_pause is ∙ word_pauses front back w word ∙ ap (λ p. is_pause w || p) (words_pause back words rest)
