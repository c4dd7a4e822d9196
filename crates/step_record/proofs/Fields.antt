-- What is read is what was written, and what was written is read: names and numbers.
use Rattle.std.proofs.Common.{◌≡◌, ℕ, zero, suc, ◌^◌, ◌<◌, true, false, cond, List, [], ◌∷◌, ◌++◌, length, get_or, take, drop, decimal, Option, Some, None, refl, sym, ap, subst, ◌∙◌, arith, rules, nat_lt, nat_eq}
use Rattle.std.specs.Char.{is_ascii_digit}
use Rattle.std.specs.List.{prefix_len}
use Rattle.std.specs.Str.{bytes_eq}
use Rattle.std.specs.Str.Parse.{AllDigits, digits_value}
use Rattle.std.proofs.lemmas.Bool.{ltb-true, lt-ltb}
use Rattle.std.proofs.lemmas.Bool.Decides.{nat_tests}
use Rattle.std.proofs.lemmas.Option.{cond_some, some_pair_parts}
use Rattle.std.proofs.lemmas.List.{take_at, drop_at, take-append-drop}
use Rattle.std.proofs.lemmas.List.Folds.{length-prefix_len}
use Rattle.std.proofs.lemmas.List.Sums.{take_while-cons}
use Rattle.std.proofs.lemmas.Slice.Eq.{bytes_eq-Decides}
use Rattle.std.proofs.lemmas.Str.Parse.{IsNumeralModel, numerals_by_value, tells_digits}
use Rattle.std.proofs.lemmas.Fmt.{decimal-digits_value, digits_decimal, digits_value-decimal, first_decimal, decimal_digit, decimal_nonempty}
use Rattle.step_record.specs.Reading.{Read, ◌>>=◌, behind_name, has_no_zero_in_front, numeral_at, digits_in_front, value_of, number_at, short_number_at}
use Rattle.step_record.proofs.Digits.{digits_only, is_digit}

-- the value of a step that found one
pub bound : {A B : Type 0} (o : Option A) (f : A → Option B) (y : B) → (o >>= f) ≡ Some y → (x : A) × (o ≡ Some x) × (f x ≡ Some y)
bound (Some x) f y e = (x, refl, e)
bound None f y e = absurd cc

pub after_takes : (name text rest : List ℕ) → behind_name name text ≡ Some rest → text ≡ name ++ rest
after_takes name text rest e =
    let found = cond_some (bytes_eq (take (length name) text) name) (drop (length name) text) rest e in
    let front : take (length name) text ≡ name = (bytes_eq-Decides (take (length name) text) name).0 found.0 in
    sym (take-append-drop (length name) text) ∙ ap (λ (t : List ℕ). t ++ drop (length name) text) front ∙ ap (λ (t : List ℕ). name ++ t) found.1

pub after_again : (name rest : List ℕ) → behind_name name (name ++ rest) ≡ Some rest
after_again name rest =
    rw (take_at name rest (length name) refl, drop_at name rest (length name) refl, (bytes_eq-Decides name name).1 refl) refl

-- ---- numbers

own : IsNumeralModel (AllDigits 10) (digits_value 10)
own = numerals_by_value (AllDigits 10) tells_digits

plain_some : (digits : List ℕ) → has_no_zero_in_front digits ≡ true → 0 < length digits
plain_some [] e = absurd cc
plain_some (c ∷ digits) e = omega arith

plain_first : (digits : List ℕ) → has_no_zero_in_front digits ≡ true → get_or digits 0 0 ≡ 48 → length digits ≡ 1
plain_first [] e zero_first = absurd cc
plain_first (c ∷ []) e zero_first = refl
plain_first (c ∷ d ∷ digits) e zero_first = absurd (grind (arith, nat_tests))

-- digits that write a number are its decimal text
pub written : (digits : List ℕ) → AllDigits 10 digits → has_no_zero_in_front digits ≡ true → digits_value 10 digits < 2 ^ 64 → decimal (digits_value 10 digits) ≡ digits
written digits only plain fits = decimal-digits_value own digits only (plain_some digits plain) (plain_first digits plain) fits

plain_from : (digits : List ℕ) → 0 < length digits → (get_or digits 0 0 ≡ 48 → length digits ≡ 1) → has_no_zero_in_front digits ≡ true
plain_from [] some first = absurd (omega arith)
plain_from (c ∷ []) some first = refl
plain_from (c ∷ d ∷ digits) some first =
    let no_zero : c ≡ 48 → ⊥ = λ zero_first. omega (arith, first zero_first) in
    let other : nat_eq c 48 ≡ false = search (rules, nat_tests) in
    rw other refl

plain_decimal : (n : ℕ) → n < 2 ^ 64 → has_no_zero_in_front (decimal n) ≡ true
plain_decimal zero fits = ap has_no_zero_in_front (decimal_digit 0 (omega arith))
plain_decimal (suc n) fits =
    plain_from (decimal (suc n)) (decimal_nonempty (suc n) fits) (λ zero_first. absurd (omega (arith, first_decimal (suc n) (omega arith) fits)))

digits_then : (digits : List ℕ) (end : ℕ) (rest : List ℕ) → AllDigits 10 digits → is_ascii_digit end ≡ false → digits_in_front (digits ++ end ∷ rest) ≡ digits
digits_then [] end rest only stops = rw (take_while-cons is_ascii_digit end rest, stops) refl
digits_then (c ∷ digits) end rest only stops =
    rw (take_while-cons is_ascii_digit c (digits ++ end ∷ rest), is_digit c only.0) (ap (λ (t : List ℕ). c ∷ t) (digits_then digits end rest only.1 stops))

cut_front : (text : List ℕ) → text ≡ digits_in_front text ++ drop (length (digits_in_front text)) text
cut_front text =
    sym (take-append-drop (prefix_len is_ascii_digit text) text)
    ∙ ap (λ (k : ℕ). digits_in_front text ++ drop k text) (sym (length-prefix_len is_ascii_digit text))

abbrev ended : List ℕ → ℕ → List ℕ → ℕ → Read ℕ
ended text end digits value = behind_name (end ∷ []) (drop (length digits) text) >>= λ rest. Some (value, rest)

pub number_takes : (text : List ℕ) (end n : ℕ) (rest : List ℕ) → number_at text end ≡ Some (n, rest) → (text ≡ decimal n ++ end ∷ rest) × (n < 2 ^ 64)
unfolding number_at
number_takes text end n rest e =
    let digits = bound (numeral_at text) (λ d. value_of d >>= λ v. ended text end d v) (n, rest) e in
    let plain = cond_some (has_no_zero_in_front (digits_in_front text)) (digits_in_front text) digits.0 digits.1 in
    let value = bound (value_of digits.0) (λ v. ended text end digits.0 v) (n, rest) digits.2 in
    let fits = cond_some (nat_lt (digits_value 10 digits.0) (2 ^ 64)) (digits_value 10 digits.0) value.0 value.1 in
    let last = bound (behind_name (end ∷ []) (drop (length digits.0) text)) (λ r. Some (value.0, r)) (n, rest) value.2 in
    let parts = some_pair_parts value.0 n last.0 rest last.2 in
    let n-is : digits_value 10 digits.0 ≡ n = fits.1 ∙ parts.0 in
    let small : digits_value 10 digits.0 < 2 ^ 64 = ltb-true _ _ fits.0 in
    let text-is : decimal n ≡ digits.0 =
    ap decimal (sym n-is) ∙ written digits.0 (subst (AllDigits 10) plain.1 (digits_only text)) (subst (λ (d : List ℕ). has_no_zero_in_front d ≡ true) plain.1 plain.0) small in
    let rest-is : drop (length digits.0) text ≡ end ∷ rest = after_takes (end ∷ []) (drop (length digits.0) text) last.0 last.1 ∙ ap (λ (r : List ℕ). end ∷ r) parts.1 in (
      cut_front text ∙ ap (λ (d : List ℕ). d ++ drop (length d) text) plain.1 ∙ ap (λ (r : List ℕ). digits.0 ++ r) rest-is ∙ ap (λ (d : List ℕ). d ++ end ∷ rest) (sym text-is),
      omega (arith, small, n-is),
    )

pub number_again : (n end : ℕ) (rest : List ℕ) → n < 2 ^ 64 → is_ascii_digit end ≡ false → number_at (decimal n ++ end ∷ rest) end ≡ Some (n, rest)
unfolding number_at
number_again n end rest fits stops =
    let only = digits_decimal own n fits in
    let front = digits_then (decimal n) end rest only stops in
    let value = digits_value-decimal own n fits in
    rw (front, plain_decimal n fits, value, lt-ltb n (2 ^ 64) fits, drop_at (decimal n) (end ∷ rest) (length (decimal n)) refl, after_again (end ∷ []) rest) refl

pub short_takes : (text : List ℕ) (end n : ℕ) (rest : List ℕ) → short_number_at text end ≡ Some (n, rest) → (text ≡ decimal n ++ end ∷ rest) × (n < 2 ^ 32)
unfolding short_number_at
short_takes text end n rest e =
    let found = bound (number_at text end) (λ x. cond (nat_lt x.0 (2 ^ 32)) (Some x) None) (n, rest) e in
    let fits = cond_some (nat_lt found.0.0 (2 ^ 32)) found.0 (n, rest) found.2 in
    let same : number_at text end ≡ Some (n, rest) = found.1 ∙ ap (λ (x : ℕ × List ℕ). Some x) fits.1 in
    let small : found.0.0 < 2 ^ 32 = ltb-true _ _ fits.0 in
    ((number_takes text end n rest same).0, subst (λ (x : ℕ × List ℕ). x.0 < 2 ^ 32) fits.1 small)

pub short_again : (n end : ℕ) (rest : List ℕ) → n < 2 ^ 32 → is_ascii_digit end ≡ false → short_number_at (decimal n ++ end ∷ rest) end ≡ Some (n, rest)
unfolding short_number_at
short_again n end rest fits stops = rw (number_again n end rest (omega arith) stops, lt-ltb n (2 ^ 32) fits) refl
