-- Of the codes of a group one passes at most.
use Rattle.std.proofs.Common.{◌≡◌, ◌≢◌, ℕ, zero, suc, ◌≤◌, Bool, true, false, List, [], ◌∷◌, ◌++◌, ◌||◌, ◌==◌, length, find, get_or, take, refl, sym, ◌∙◌, ap, arith, pos, Option, Some, None, option_and_then}
use Rattle.std.specs.List.{list_any}
use Rattle.std.proofs.lemmas.Bool.Decides.{nat_tests}
use Rattle.std.proofs.lemmas.List.{take_all}
use Rattle.std.proofs.Math.Seq.{take-suc}
use Rattle.gcode_words.specs.declared.Word.{Word}
use Rattle.code_table.specs.Tables.{value_of}
use Rattle.line_words.specs.Codes.{rows_of, has, key_of, is_key, group_of, is_of_group, is_code, code_in}
use Rattle.line_words.specs.WordRefusals.{word_refusal, words_refusal}
use Rattle.line_words.proofs.Tests.{and_true, is_same}
use Rattle.line_words.proofs.Places.{refusal_is, each_passes}
use Rattle.line_words.proofs.Pushes.{any_push}
use Rattle.line_words.proofs.Pushing.{passes}
use Rattle.line_words.proofs.Told.{FirstOf, nowhere, here, first_of}

-- two codes of one group
pub record AreRivals (letter key other_letter other_key group : ℕ) : Type 0 where
  pub row : value_of key (rows_of letter) ≡ Some group
  pub other_row : value_of other_key (rows_of other_letter) ≡ Some group
  pub differ : key ≢ other_key

keyed : (key : ℕ) (o : Option ℕ) → is_key key o ≡ true → o ≡ Some key
keyed key None e = absurd cc
keyed key (Some other) e = ap Some (is_same other key e)

same_number : (n : ℕ) → (n == n) ≡ true
same_number n = grind (arith, nat_tests)

-- a word that is a code has the code's group
group_is : (w : Word) (letter key group : ℕ) → value_of key (rows_of letter) ≡ Some group → is_code letter key w ≡ true → group_of w ≡ Some group
unfolding group_of
group_is w letter key group row e =
    let both = and_true (w.letter == letter) (is_key key (key_of w.value)) e in
    let same_letter = is_same w.letter letter both.0 in
    let same_key = keyed key (key_of w.value) both.1 in
    rw (same_key, same_letter) row

other_code : (w : Word) (letter key other_letter other_key : ℕ) → key ≢ other_key → is_code letter key w ≡ true → is_code other_letter other_key w ≡ false
other_code w letter key other_letter other_key differ e = by_test (is_code other_letter other_key w) refl
  where
    by_test : (b : Bool) → is_code other_letter other_key w ≡ b → b ≡ false
    by_test false f = refl
    by_test true f =
        let one = keyed key (key_of w.value) (and_true (w.letter == letter) (is_key key (key_of w.value)) e).1 in
        let two = keyed other_key (key_of w.value) (and_true (w.letter == other_letter) (is_key other_key (key_of w.value)) f).1 in
        absurd (differ cc)

-- where a code stands, its group does
stands_in_group : (ws : List Word) (letter key group : ℕ) → value_of key (rows_of letter) ≡ Some group → has letter key ws ≡ true → list_any (is_of_group group) ws ≡ true
stands_in_group [] letter key group row e = absurd cc
stands_in_group (w ∷ ws) letter key group row e = by_test (is_code letter key w) refl e (stands_in_group ws letter key group row)
  where
    or_true : (b : Bool) → (b || true) ≡ true
    or_true true = refl
    or_true false = refl

    by_test : (b : Bool) → is_code letter key w ≡ b → (b || has letter key ws) ≡ true → (has letter key ws ≡ true → list_any (is_of_group group) ws ≡ true)
        → (is_of_group group w || list_any (is_of_group group) ws) ≡ true
    by_test true f h rest = rw (group_is w letter key group row f, same_number group) refl
    by_test false f h rest = rw (rest h) (or_true (is_of_group group w))

not_there : (ws : List Word) (letter key group : ℕ) → value_of key (rows_of letter) ≡ Some group → list_any (is_of_group group) ws ≡ false → has letter key ws ≡ false
not_there ws letter key group row none = by_test (has letter key ws) refl
  where
    by_test : (b : Bool) → has letter key ws ≡ b → b ≡ false
    by_test false e = refl
    by_test true e = let some = stands_in_group ws letter key group row e in absurd cc

-- one more word that passes
pushed : (before : List Word) (w : Word) (letter key other_letter other_key group : ℕ) → AreRivals letter key other_letter other_key group
    → word_refusal before w ≡ None → (has letter key before ≡ true → has other_letter other_key before ≡ false)
    → has letter key (before ++ w ∷ []) ≡ true → has other_letter other_key (before ++ w ∷ []) ≡ false
pushed before w letter key other_letter other_key group rivals pass so_far e =
    by_first (is_code letter key w) refl
  where
    new : group_of w ≡ Some group → list_any (is_of_group group) before ≡ false
    new grouped = rw grouped at (passes before w pass).new_group

    by_other : (b : Bool) → is_code other_letter other_key w ≡ b → has letter key before ≡ true → has other_letter other_key (before ++ w ∷ []) ≡ false
    by_other false f h = any_push (is_code other_letter other_key) before w f ∙ so_far h
    by_other true f h =
        let none = not_there before letter key group rivals.row (new (group_is w other_letter other_key group rivals.other_row f)) in
        absurd cc

    by_first : (b : Bool) → is_code letter key w ≡ b → has other_letter other_key (before ++ w ∷ []) ≡ false
    by_first true f =
        any_push (is_code other_letter other_key) before w (other_code w letter key other_letter other_key rivals.differ f)
        ∙ not_there before other_letter other_key group rivals.other_row (new (group_is w letter key group rivals.row f))
    by_first false f = by_other (is_code other_letter other_key w) refl (sym (any_push (is_code letter key) before w f) ∙ e)

blank : Word
blank = record { letter = 0; value = record { micro = pos 0 } }

among : (ws : List Word) (n : ℕ) (letter key other_letter other_key group : ℕ) → AreRivals letter key other_letter other_key group
    → words_refusal ws ≡ None → n ≤ length ws → has letter key (take n ws) ≡ true → has other_letter other_key (take n ws) ≡ false
among ws zero letter key other_letter other_key group rivals pass small e = absurd cc
among ws (suc n) letter key other_letter other_key group rivals pass small e =
    let more : take (suc n) ws ≡ take n ws ++ get_or ws n blank ∷ [] = take-suc ws n blank (omega arith) in
    rw more (pushed (take n ws) (get_or ws n blank) letter key other_letter other_key group rivals
    (refusal_is ws n blank (omega arith) ∙ each_passes ws n pass (omega arith))
    (among ws n letter key other_letter other_key group rivals pass (omega arith)) (rw more at e))

-- of two codes of one group, one stands at most among words that pass
pub alone : (ws : List Word) (letter key other_letter other_key group : ℕ) → AreRivals letter key other_letter other_key group
    → words_refusal ws ≡ None → has letter key ws ≡ true → has other_letter other_key ws ≡ false
alone ws letter key other_letter other_key group rivals pass e =
    let all = take_all (length ws) ws (omega arith) in
    rw all at (among ws (length ws) letter key other_letter other_key group rivals pass (omega arith) (rw all e))

-- the code that stands of a group is the line's
pub code_is : (ws : List Word) (letter key group : ℕ) → value_of key (rows_of letter) ≡ Some group
    → words_refusal ws ≡ None → has letter key ws ≡ true → code_in group ws ≡ Some key
unfolding code_in
code_is ws letter key group row pass e = by_first (first_of group ws)
  where
    by_key : (b : Bool) (w : Word) (other : ℕ) → (key == other) ≡ b → value_of other (rows_of w.letter) ≡ Some group → has w.letter other ws ≡ true → other ≡ key
    by_key true w other same row' stands = sym (is_same key other same)
    by_key false w other differ row' stands =
        let gone = alone ws letter key w.letter other group (record { row = row; other_row = row'; differ = λ same. let test : (key == other) ≡ true = rw (← same) (same_number key) in cc }) pass e in
        absurd cc

    by_first : FirstOf group ws → option_and_then (λ w. key_of w.value) (find (is_of_group group) ws) ≡ Some key
    by_first (nowhere a b) = let some = stands_in_group ws letter key group row e in absurd cc
    by_first (here w other a b c d) = rw a (b ∙ ap Some (by_key (key == other) w other refl c d))
