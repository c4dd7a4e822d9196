-- Texts that are told apart: what stands in front of a byte that ends it can be read back.
use Rattle.std.proofs.Common.{◌≡◌, ℕ, suc, ◌+◌, ◌/◌, ◌%◌, ◌^◌, ◌≤◌, ◌<◌, ℤ, pos, negsuc, nat_abs, Bool, true, false, ◌&&◌, nat_le, List, [], ◌∷◌, ◌++◌, decimal, refl, sym, ap, ◌∙◌, arith}
use Rattle.std.specs.List.{list_all}
use Rattle.std.specs.Str.Parse.{digits_value}
use Rattle.std.proofs.lemmas.Bool.Decides.{nat_tests}
use Rattle.std.proofs.lemmas.List.Folds.{list_all-append}
use Rattle.std.proofs.lemmas.Fmt.{decimal_by_steps, decimal_is_IsNumeral}
use Rattle.units.specs.Fixed.{fixed3, minus_sign, three_digits}

pub both : (a b : Bool) → a ≡ true → b ≡ true → (a && b) ≡ true
both a b first second = rw first second

pub first_of_both : (a b : Bool) → (a && b) ≡ true → a ≡ true
first_of_both true b e = refl
first_of_both false b e = e

pub second_of_both : (a b : Bool) → (a && b) ≡ true → b ≡ true
second_of_both true b e = e
second_of_both false b e = cc

-- two texts that end at the first byte that a test refuses are the same where the wholes are
pub parted : (p : ℕ → Bool) (xs ys : List ℕ) (c d : ℕ) (r s : List ℕ) → list_all p xs ≡ true → list_all p ys ≡ true → p c ≡ false → p d ≡ false
    → xs ++ c ∷ r ≡ ys ++ d ∷ s → (xs ≡ ys) × (c ∷ r ≡ d ∷ s)
parted p [] [] c d r s xs-all ys-all c-ends d-ends e = (refl, e)
parted p [] (y ∷ ys) c d r s xs-all ys-all c-ends d-ends e =
    let same : c ≡ y = cc in
    let passes : p y ≡ true = first_of_both (p y) (list_all p ys) ys-all in
    absurd (cc)
parted p (x ∷ xs) [] c d r s xs-all ys-all c-ends d-ends e =
    let same : x ≡ d = cc in
    let passes : p x ≡ true = first_of_both (p x) (list_all p xs) xs-all in
    absurd (cc)
parted p (x ∷ xs) (y ∷ ys) c d r s xs-all ys-all c-ends d-ends e =
    let same : x ≡ y = cc in
    let tails : xs ++ c ∷ r ≡ ys ++ d ∷ s = cc in
    let others = parted p xs ys c d r s (second_of_both (p x) (list_all p xs) xs-all) (second_of_both (p y) (list_all p ys) ys-all) c-ends d-ends tails in
    let fronts : xs ≡ ys = others.0 in
    ((cc), others.1)

-- the digits of numbers pass a test that digits pass
abbrev pub PassesDigits : (ℕ → Bool) → Type 0
PassesDigits p = (c : ℕ) → 48 ≤ c → c < 58 → p c ≡ true

pub decimal_passes : (p : ℕ → Bool) → PassesDigits p → (n : ℕ) → n < 2 ^ 64 → list_all p (decimal n) ≡ true
decimal_passes p passes n fits =
    decimal_by_steps (λ m ds. list_all p ds ≡ true) (λ m small. both (p (48 + m)) true (passes (48 + m) (omega arith) (omega arith)) refl)
    (λ m ds large others. rw list_all-append (both (list_all p ds) (p (48 + m % 10) && true) others (both (p (48 + m % 10)) true (passes (48 + m % 10) (omega arith) (omega arith)) refl)))
    n fits

pub decimal_same : (n m : ℕ) → n < 2 ^ 64 → m < 2 ^ 64 → decimal n ≡ decimal m → n ≡ m
decimal_same n m n-fits m-fits e = sym (decimal_is_IsNumeral n n-fits).1 ∙ ap (digits_value 10) e ∙ (decimal_is_IsNumeral m m-fits).1

three_pass : (p : ℕ → Bool) → PassesDigits p → p 46 ≡ true → (n : ℕ) → list_all p (46 ∷ three_digits n) ≡ true
three_pass p passes point n =
    both (p 46) (list_all p (three_digits n)) point
    (both (p (48 + n / 100 % 10)) (list_all p ((48 + n / 10 % 10) ∷ (48 + n % 10) ∷ [])) (passes (48 + n / 100 % 10) (omega arith) (omega arith))
    (both (p (48 + n / 10 % 10)) (list_all p ((48 + n % 10) ∷ [])) (passes (48 + n / 10 % 10) (omega arith) (omega arith))
    (both (p (48 + n % 10)) true (passes (48 + n % 10) (omega arith) (omega arith)) refl)))

sign_passes : (p : ℕ → Bool) → p 45 ≡ true → (v : ℤ) → list_all p (minus_sign v) ≡ true
sign_passes p sign (pos n) = refl
sign_passes p sign (negsuc n) = both (p 45) true sign refl

pub fixed_passes : (p : ℕ → Bool) → PassesDigits p → p 45 ≡ true → p 46 ≡ true → (v : ℤ) → nat_abs v ≤ 2000000000000 → list_all p (fixed3 v) ≡ true
unfolding fixed3
fixed_passes p passes sign point v near =
    let whole = decimal (nat_abs v / 1000) in
    let ends = 46 ∷ three_digits (nat_abs v) in
    list_all-append p (minus_sign v ++ whole) ends
    ∙ both (list_all p (minus_sign v ++ whole)) (list_all p ends)
    (list_all-append p (minus_sign v) whole ∙ both (list_all p (minus_sign v)) (list_all p whole) (sign_passes p sign v) (decimal_passes p passes (nat_abs v / 1000) (omega arith)))
    (three_pass p passes point (nat_abs v))

-- digits
is_digit : ℕ → Bool
is_digit b = nat_le 48 b && nat_le b 57

digits_are : PassesDigits is_digit
unfolding is_digit
digits_are c low high = grind (arith, nat_tests)

magnitude_same : (m n : ℕ) → m ≤ 2000000000000 → n ≤ 2000000000000
    → decimal (m / 1000) ++ 46 ∷ three_digits m ≡ decimal (n / 1000) ++ 46 ∷ three_digits n → m ≡ n
unfolding is_digit
magnitude_same m n m-near n-near e =
    let parts = parted is_digit (decimal (m / 1000)) (decimal (n / 1000)) 46 46 (three_digits m) (three_digits n)
    (decimal_passes is_digit digits_are (m / 1000) (omega arith)) (decimal_passes is_digit digits_are (n / 1000) (omega arith)) refl refl e in
    let ends : 46 ∷ three_digits m ≡ 46 ∷ three_digits n = parts.1 in
    let whole : m / 1000 ≡ n / 1000 = decimal_same (m / 1000) (n / 1000) (omega arith) (omega arith) parts.0 in
    let hundreds : 48 + m / 100 % 10 ≡ 48 + n / 100 % 10 = cc in
    let tens : 48 + m / 10 % 10 ≡ 48 + n / 10 % 10 = cc in
    let ones : 48 + m % 10 ≡ 48 + n % 10 = cc in
    omega arith

signs_differ : (m : ℕ) (r s : List ℕ) → m < 2 ^ 64 → decimal m ++ 46 ∷ r ≡ 45 ∷ s → ⊥
unfolding is_digit
signs_differ m r s fits e =
    let parts = parted is_digit (decimal m) [] 46 45 r s (decimal_passes is_digit digits_are m fits) refl refl refl e in
    let ends : 46 ∷ r ≡ 45 ∷ s = parts.1 in
    let same : ◌≡◌ {A = ℕ} 46 45 = cc in
    omega arith

pub fixed_same : (v w : ℤ) → nat_abs v ≤ 2000000000000 → nat_abs w ≤ 2000000000000 → fixed3 v ≡ fixed3 w → v ≡ w
unfolding fixed3
fixed_same (pos m) (pos n) m-near n-near e = ap pos (magnitude_same m n m-near n-near e)
fixed_same (negsuc m) (negsuc n) m-near n-near e =
    let tails : decimal (suc m / 1000) ++ 46 ∷ three_digits (suc m) ≡ decimal (suc n / 1000) ++ 46 ∷ three_digits (suc n) = cc in
    let same : suc m ≡ suc n = magnitude_same (suc m) (suc n) m-near n-near tails in
    ap negsuc (let i : m ≡ n = omega arith in i)
fixed_same (pos m) (negsuc n) m-near n-near e = absurd (signs_differ (m / 1000) _ _ (omega arith) e)
fixed_same (negsuc m) (pos n) m-near n-near e = absurd (signs_differ (n / 1000) _ _ (omega arith) (sym e))
