-- Digits, and the numbers that they write.
use Rattle.std.proofs.Common.{◌≡◌, ℕ, ◌+◌, ◌*◌, ◌^◌, ◌<◌, ◌≤◌, Bool, true, false, cond, List, [], ◌∷◌, length, get_or, take, Some, None, refl, ap, ◌∙◌, arith, rules}
use Rattle.std.specs.Char.{is_ascii_digit, digit_value}
use Rattle.std.specs.List.{take_while}
use Rattle.std.specs.Str.Parse.{AllDigits, digits_value}
use Rattle.std.proofs.lemmas.Bool.{le-ltb, lt-ltb}
use Rattle.std.proofs.lemmas.Bool.Decides.{nat_tests}
use Rattle.std.proofs.lemmas.List.{take_all}
use Rattle.std.proofs.lemmas.List.Sums.{take_while-cons}
use Rattle.std.proofs.lemmas.Int.Digits.{digits_value_more}
use Rattle.std.proofs.lemmas.Str.{digit_value_digit}
use Rattle.std.proofs.lemmas.Str.Parse.{digits_value-take-le, digit_at, digit_from_value}
use Rattle.step_record.specs.Reading.{value_of}

digit_small : (c : ℕ) → is_ascii_digit c ≡ true → digit_value c < 10
digit_small c h = grind (arith, nat_tests)

pub is_digit : (c : ℕ) → digit_value c < 10 → is_ascii_digit c ≡ true
is_digit c small = let range = digit_from_value c small in search (rules, nat_tests)

kept : (b : Bool) (c : ℕ) (digits : List ℕ) → (b ≡ true → digit_value c < 10) → AllDigits 10 digits → AllDigits 10 (cond b (c ∷ digits) [])
kept true c digits small others = (small refl, others)
kept false c digits small others = tt

pub digits_only : (text : List ℕ) → AllDigits 10 (take_while is_ascii_digit text)
digits_only [] = tt
digits_only (c ∷ text) = rw take_while-cons (kept (is_ascii_digit c) c (take_while is_ascii_digit text) (digit_small c) (digits_only text))

-- the digit at a place, and what it says
pub digit_is : (digits : List ℕ) (i : ℕ) → AllDigits 10 digits → i < length digits → digit_value (get_or digits i 0) + 48 ≡ get_or digits i 0
digit_is digits i only within = digit_value_digit (get_or digits i 0) (digit_at digits i only within)

-- more digits only make a number that is too large larger
pub too_large : (digits : List ℕ) (i value : ℕ) → i < length digits → value ≡ digits_value 10 (take i digits)
    → 2 ^ 64 ≤ value * 10 + digit_value (get_or digits i 0) → value_of digits ≡ None
too_large digits i value within so_far large =
    let more = digits_value_more 10 digits i within in
    let whole = digits_value-take-le 10 digits (i + 1) (omega arith) in
    rw (le-ltb (digits_value 10 digits) (2 ^ 64) (omega arith)) refl

pub whole_value : (digits : List ℕ) (i value : ℕ) → length digits ≤ i → value ≡ digits_value 10 (take i digits) → value < 2 ^ 64 → Some value ≡ value_of digits
whole_value digits i value all so_far fits =
    let value-is : value ≡ digits_value 10 digits = so_far ∙ ap (digits_value 10) (take_all i digits all) in
    let known = lt-ltb (digits_value 10 digits) (2 ^ 64) (omega arith) in
    rw (known, value-is) refl
