-- Replies that are told apart from all others by their texts.
use Rattle.std.specs.Prelude.{codes, if◌then◌else◌, ◌==◌}
use Rattle.std.proofs.Common.{◌≡◌, ◌<◌, ◌≤◌, ◌+◌, ◌/◌, ◌%◌, ℕ, zero, suc, Bool, true, false, List, [], ◌∷◌, ◌++◌, append_assoc, drop, nat_lt, decimal, refl, sym, ap, ◌∙◌, arith}
use Rattle.std.specs.Fmt.{digits, digits_onto, digit_glyph}
use Rattle.std.proofs.lemmas.Bool.{ltb-true, ltb-false, ne_eqb}
use Rattle.std.proofs.lemmas.Fmt.{decimal_digit}
use Rattle.status_report.specs.Answering.{is_bye}
use Rattle.status_report.specs.Replies.{reply_text}
use Rattle.status_report.specs.declared.Reply.{Reply}
use Rattle.status_report.specs.declared.Reply.TheVariants.{Banner, Ok as Accepted, Error, Alarm, Message as Telling, Report as Reporting, Setting, Modes, Offset, Bye}
use Rattle.audit_rules.proofs.OneText.{first_byte}

-- ---- numbers of one digit

glyph_is : (d : ℕ) → digit_glyph false d ≡ 13 → ⊥
glyph_is d e = by_test (nat_lt d 10) refl where
  by_test : (b : Bool) → nat_lt d 10 ≡ b → ⊥
  by_test true small = omega (arith, (let f : 48 + d ≡ 13 = sym (ap (λ (b : Bool). if b then 48 + d else 87 + d) small) ∙ e in f))
  by_test false large = omega (arith, (let f : 87 + d ≡ 13 = sym (ap (λ (b : Bool). if b then 48 + d else 87 + d) large) ∙ e in f))

-- digits in front of a digit: the second is no CR
second_digit : (k n d : ℕ) (more : List ℕ) → (a b : ℕ) × (rest : List ℕ) × (digits_onto (suc k) 10 false n (digit_glyph false d ∷ more) ≡ a ∷ b ∷ rest) × (b ≡ 13 → ⊥)
second_digit zero n d more = by_test (n / 10 == 0) refl where
  here : List ℕ
  here = digit_glyph false (n % 10) ∷ digit_glyph false d ∷ more

  by_test : (b : Bool) → (n / 10 == 0) ≡ b → (a b : ℕ) × (rest : List ℕ) × (digits_onto 1 10 false n (digit_glyph false d ∷ more) ≡ a ∷ b ∷ rest) × (b ≡ 13 → ⊥)
  by_test true e = (digit_glyph false (n % 10), digit_glyph false d, more, ap (λ (b : Bool). if b then here else here) e, glyph_is d)
  by_test false e = (digit_glyph false (n % 10), digit_glyph false d, more, ap (λ (b : Bool). if b then here else here) e, glyph_is d)
second_digit (suc k) n d more = by_test (n / 10 == 0) refl (second_digit k (n / 10) (n % 10) (digit_glyph false d ∷ more)) where
  here : List ℕ
  here = digit_glyph false (n % 10) ∷ digit_glyph false d ∷ more

  by_test : (b : Bool) → (n / 10 == 0) ≡ b
      → (a b : ℕ) × (rest : List ℕ) × (digits_onto (suc k) 10 false (n / 10) here ≡ a ∷ b ∷ rest) × (b ≡ 13 → ⊥)
      → (a b : ℕ) × (rest : List ℕ) × (digits_onto (suc (suc k)) 10 false n (digit_glyph false d ∷ more) ≡ a ∷ b ∷ rest) × (b ≡ 13 → ⊥)
  by_test true e again = (digit_glyph false (n % 10), digit_glyph false d, more, ap (λ (b : Bool). if b then here else digits_onto (suc k) 10 false (n / 10) here) e, glyph_is d)
  by_test false e again = (again.0, again.1, again.2, ap (λ (b : Bool). if b then here else digits_onto (suc k) 10 false (n / 10) here) e ∙ again.3, again.4)

-- a number that is written so, before CR, is that of the digit
one_digit : (n d : ℕ) (xs ys : List ℕ) → d < 10 → decimal d ++ 13 ∷ xs ≡ decimal n ++ 13 ∷ ys → n ≡ d
unfolding digits
one_digit n d xs ys small e = by_test (nat_lt n 10) refl where
  whole : (48 + d) ∷ 13 ∷ xs ≡ decimal n ++ 13 ∷ ys
  whole = ap (λ (t : List ℕ). t ++ 13 ∷ xs) (sym (decimal_digit d small)) ∙ e

  by_test : (b : Bool) → nat_lt n 10 ≡ b → n ≡ d
  by_test true few =
      let n_small : n < 10 = ltb-true n 10 few in
      let both : (48 + d) ∷ 13 ∷ xs ≡ (48 + n) ∷ 13 ∷ ys = whole ∙ ap (λ (t : List ℕ). t ++ 13 ∷ ys) (decimal_digit n n_small) in
      let same : 48 + d ≡ 48 + n = cc in
      omega (arith, same)
  by_test false many =
      let large : 10 ≤ n = ltb-false n 10 many in
      let tenth : (n / 10 == 0) ≡ false = ne_eqb (n / 10) 0 (λ e. omega (arith, e, large)) in
      let more = second_digit 62 (n / 10) (n % 10) [] in
      let is : decimal n ≡ more.0 ∷ more.1 ∷ more.2 =
      ap (λ (b : Bool). if b then digit_glyph false (n % 10) ∷ [] else digits_onto 63 10 false (n / 10) (digit_glyph false (n % 10) ∷ [])) tenth ∙ more.3 in
      let both : (48 + d) ∷ 13 ∷ xs ≡ more.0 ∷ more.1 ∷ (more.2 ++ 13 ∷ ys) = whole ∙ ap (λ (t : List ℕ). t ++ 13 ∷ ys) is in
      let same : 13 ≡ more.1 = cc in
      absurd (more.4 (sym same))

-- ---- replies told apart

pub banner_apart : (r : Reply) → is_bye r ≡ false → first_byte Banner ≡ first_byte r → Banner ≡ r
banner_apart Banner some e = refl
banner_apart Accepted some e = absurd (omega (arith, e))
banner_apart (Error n) some e = absurd (omega (arith, e))
banner_apart (Alarm n) some e = absurd (omega (arith, e))
banner_apart (Telling m) some e = absurd (omega (arith, e))
banner_apart (Reporting r) some e = absurd (omega (arith, e))
banner_apart (Setting n value) some e = absurd (omega (arith, e))
banner_apart (Modes m) some e = absurd (omega (arith, e))
banner_apart (Offset row at) some e = absurd (omega (arith, e))
banner_apart Bye some e = absurd (omega (arith, e))

ends_with : (text : List ℕ) (rest : List ℕ) → (text ++ codes "\r\n") ++ rest ≡ text ++ 13 ∷ 10 ∷ rest
ends_with text rest = append_assoc text (codes "\r\n") rest

pub error_apart : (d : ℕ) (r : Reply) (s t : List ℕ) → d < 10 → is_bye r ≡ false → first_byte (Error d) ≡ first_byte r → reply_text (Error d) ++ s ≡ reply_text r ++ t → Error d ≡ r
unfolding reply_text
error_apart d (Error n) s t small some first e =
    let numbers : (decimal d ++ codes "\r\n") ++ s ≡ (decimal n ++ codes "\r\n") ++ t = ap (drop 6) e in
    ap Error (sym (one_digit n d (10 ∷ s) (10 ∷ t) small (sym (ends_with (decimal d) s) ∙ numbers ∙ ends_with (decimal n) t)))
error_apart d Banner s t small some first e = absurd (omega (arith, first))
error_apart d Accepted s t small some first e = absurd (omega (arith, first))
error_apart d (Alarm n) s t small some first e = absurd (omega (arith, first))
error_apart d (Telling m) s t small some first e = absurd (omega (arith, first))
error_apart d (Reporting r) s t small some first e = absurd (omega (arith, first))
error_apart d (Setting n value) s t small some first e = absurd (omega (arith, first))
error_apart d (Modes m) s t small some first e = absurd (omega (arith, first))
error_apart d (Offset row at) s t small some first e = absurd (omega (arith, first))
error_apart d Bye s t small some first e = absurd (omega (arith, first))

pub alarm_apart : (d : ℕ) (r : Reply) (s t : List ℕ) → d < 10 → is_bye r ≡ false → first_byte (Alarm d) ≡ first_byte r → reply_text (Alarm d) ++ s ≡ reply_text r ++ t → Alarm d ≡ r
unfolding reply_text
alarm_apart d (Alarm n) s t small some first e =
    let numbers : (decimal d ++ codes "\r\n") ++ s ≡ (decimal n ++ codes "\r\n") ++ t = ap (drop 6) e in
    ap Alarm (sym (one_digit n d (10 ∷ s) (10 ∷ t) small (sym (ends_with (decimal d) s) ∙ numbers ∙ ends_with (decimal n) t)))
alarm_apart d Banner s t small some first e = absurd (omega (arith, first))
alarm_apart d Accepted s t small some first e = absurd (omega (arith, first))
alarm_apart d (Error n) s t small some first e = absurd (omega (arith, first))
alarm_apart d (Telling m) s t small some first e = absurd (omega (arith, first))
alarm_apart d (Reporting r) s t small some first e = absurd (omega (arith, first))
alarm_apart d (Setting n value) s t small some first e = absurd (omega (arith, first))
alarm_apart d (Modes m) s t small some first e = absurd (omega (arith, first))
alarm_apart d (Offset row at) s t small some first e = absurd (omega (arith, first))
alarm_apart d Bye s t small some first e = absurd (omega (arith, first))
