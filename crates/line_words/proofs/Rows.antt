-- The rows of the codes.
use Rattle.std.proofs.Common.{◌≡◌, ℕ, ◌*◌, ◌/◌, ◌%◌, ◌<◌, ◌≤◌, Bool, true, false, cond, not, ◌&&◌, ◌==◌, refl, sym, ◌∙◌, arith, Option, Some, None, option_and_then, if◌then◌else◌, nat_abs}
use Rattle.std.proofs.lemmas.Bool.Decides.{nat_tests}
use Rattle.units.specs.declared.Decimal.{Decimal}
use Rattle.gcode_words.specs.declared.Word.{Word}
use Rattle.code_table.specs.Tables.{value_of, g_rows, m_rows}
use Rattle.line_words.specs.Letters.{G, M}
use Rattle.line_words.specs.Codes.{is_negative, key_of, rows_of, group_of, is_command_letter}
use Rattle.line_words.proofs.Tests.{is_same}

g_low : (key group : ℕ) → value_of key g_rows ≡ Some group → group < 20
g_low key group h = grind (arith, nat_tests)

m_high : (key group : ℕ) → value_of key m_rows ≡ Some group → 20 ≤ group
m_high key group h = grind (arith, nat_tests)

-- a letter with rows is G with a group below 20 or M with another
data IsLettered (letter group : ℕ) : Type 0 where
  g : letter ≡ G → group < 20 → IsLettered letter group
  m : letter ≡ M → 20 ≤ group → IsLettered letter group

lettered : (letter key group : ℕ) → value_of key (rows_of letter) ≡ Some group → IsLettered letter group
lettered letter key group h = at_g (letter == G) refl
  where
    at_m : (b : Bool) → (letter == G) ≡ false → (letter == M) ≡ b → IsLettered letter group
    at_m true not_g is_m = let same = is_same letter M is_m in m same (m_high key group (rw same at h))
    at_m false not_g not_m = let none = rw (not_g, not_m) at h in absurd cc

    at_g : (b : Bool) → (letter == G) ≡ b → IsLettered letter group
    at_g true is_g = let same = is_same letter G is_g in g same (g_low key group (rw same at h))
    at_g false not_g = at_m (letter == M) not_g refl

-- codes of one group have one letter
pub same_letter : (letter other key key' group : ℕ) → value_of key (rows_of letter) ≡ Some group → value_of key' (rows_of other) ≡ Some group → letter ≡ other
same_letter letter other key key' group h h' = both (lettered letter key group h) (lettered other key' group h')
  where
    both : IsLettered letter group → IsLettered other group → letter ≡ other
    both (g e low) (g e' low') = e ∙ sym e'
    both (g e low) (m e' high) = absurd (omega (arith, low, high))
    both (m e high) (g e' low) = absurd (omega (arith, low, high))
    both (m e high) (m e' high') = e ∙ sym e'

pub command_letter : (letter key group : ℕ) → value_of key (rows_of letter) ≡ Some group → is_command_letter letter ≡ true
command_letter letter key group h = told (lettered letter key group h)
  where
    told : IsLettered letter group → is_command_letter letter ≡ true
    told (g e low) = rw e refl
    told (m e high) = rw e refl

pub one_some : (a b : ℕ) → (let o : Option ℕ = Some a in o) ≡ Some b → a ≡ b
one_some a b e = cc

-- a word of a group has a key, and its row has that group
pub record HasRow (w : Word) (group : ℕ) : Type 0 where
  pub key : ℕ
  pub value : nat_abs w.value.micro ≡ key * 100000
  pub is_key : key_of w.value ≡ Some key
  pub row : value_of key (rows_of w.letter) ≡ Some group

whole_key : (negative : Bool) (n : ℕ) (key : ℕ) → (if not negative && (n % 100000 == 0) then Some (n / 100000) else None) ≡ Some key → n ≡ key * 100000
whole_key true n key e = absurd cc
whole_key false n key e = at (n % 100000 == 0) refl e
  where
    at : (b : Bool) → (n % 100000 == 0) ≡ b → cond b (Some (n / 100000)) None ≡ Some key → n ≡ key * 100000
    at true whole same = let rest = is_same (n % 100000) 0 whole in let quotient = one_some (n / 100000) key same in omega (arith, rest, quotient)
    at false broken same = absurd cc

key_value : (v : Decimal) (key : ℕ) → key_of v ≡ Some key → nat_abs v.micro ≡ key * 100000
key_value v key e = whole_key (is_negative v) (nat_abs v.micro) key e

pub has_row : (w : Word) (group : ℕ) → group_of w ≡ Some group → HasRow w group
unfolding group_of
has_row w group e = by_key (key_of w.value) refl e
  where
    by_key : (o : Option ℕ) → key_of w.value ≡ o → option_and_then (λ key. value_of key (rows_of w.letter)) o ≡ Some group → HasRow w group
    by_key None same none = absurd cc
    by_key (Some key) same row = record { key = key; value = key_value w.value key same; is_key = same; row = row }
