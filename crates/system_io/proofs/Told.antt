-- The words of a text, and its lines.
use Rattle.std.proofs.Common.{◌≡◌, ◌==◌, ℕ, ◌<◌, List, [], ◌∷◌, length, Bor, refl, sym, subst, inl, inr, false, arith}
use Rattle.std.specs.Prelude.{MatchOption, IfNone, Option, Some, None}
use Rattle.std.specs.List.{before_first, after_first, position_or_len, slice_split}
use Rattle.std.specs.Str.Iter.{split_whitespace_steps, split_whitespace_rest}
use Rattle.std.specs.Str.Pattern.{LacksTextAt}
use Rattle.std.proofs.lemmas.List.Splits.{slice_split_first, slice_split_none}
use Rattle.std.proofs.lemmas.List.Sums.{fails_before_first}
use Rattle.std.proofs.lemmas.List.Elements.{All-from_get_or}
use Rattle.system_io.specs.Limits.{limit_name, HasNoWord, IsFirstWord, IsFirstNumber, IsNamed, IsLimitIn, TellsLimit}

pub first_word_of : (s t : _) (r : Option (Bor (List ℕ))) → split_whitespace_steps s r t
    → MatchOption r (HasNoWord (split_whitespace_rest s)) (λ x. IsFirstWord (split_whitespace_rest s) x.now)
first_word_of s t None (same, blank) = blank
first_word_of s t (Some x) (gap, whole, some, blank, solid, ends) = record {
  gap = gap;
  behind = split_whitespace_rest t;
  whole = whole;
  blank = blank;
  some = some;
  solid = solid;
  more = ends.0;
  ends = ends.1;
}

pub unnamed : (P : Bor (List ℕ) → Type 0) (line : List ℕ) (r : Option (Bor (List ℕ))) → MatchOption r (LacksTextAt limit_name line 0) P
    → IfNone r ((limits : List ℕ) → ¬ IsNamed line limits)
unnamed P line None lacks = lacks
unnamed P line (Some x) found = record {}

-- where the first line has no limit, what the others tell the text tells
pub behind_line : (text : List ℕ) → position_or_len (λ b. b == 10) text < length text
    → ((limits : List ℕ) → ¬ IsNamed (before_first (λ b. b == 10) text) limits) → (told : Option ℕ) → TellsLimit (after_first (λ b. b == 10) text) told → TellsLimit text told
behind_line text some other told tells =
    subst (λ lines. IsLimitIn lines told) (sym (slice_split_first (λ b. b == 10) text 0 some)) (inr (other, tells))

-- the first line has it
pub in_line : (text : List ℕ) → position_or_len (λ b. b == 10) text < length text
    → (limits : List ℕ) → IsNamed (before_first (λ b. b == 10) text) limits → (told : Option ℕ) → IsFirstNumber limits told → TellsLimit text told
in_line text some limits named told number =
    subst (λ lines. IsLimitIn lines told) (sym (slice_split_first (λ b. b == 10) text 0 some)) (inl (limits, named, number))

one_line : (text : List ℕ) → position_or_len (λ b. b == 10) text ≡ length text → slice_split (λ b. b == 10) text ≡ text ∷ []
one_line text whole =
    slice_split_none (λ b. b == 10) text (All-from_get_or (λ x. (x == 10) ≡ false) text 0 (λ i l. fails_before_first (λ b. b == 10) text i 0 (omega (arith, whole))))

-- the last line has it, or has none
pub in_last : (text : List ℕ) → position_or_len (λ b. b == 10) text ≡ length text
    → (limits : List ℕ) → IsNamed text limits → (told : Option ℕ) → IsFirstNumber limits told → TellsLimit text told
in_last text whole limits named told number = subst (λ lines. IsLimitIn lines told) (sym (one_line text whole)) (inl (limits, named, number))

pub in_none : (text : List ℕ) → position_or_len (λ b. b == 10) text ≡ length text → ((limits : List ℕ) → ¬ IsNamed text limits) → TellsLimit text None
in_none text whole other = subst (λ lines. IsLimitIn lines None) (sym (one_line text whole)) (inr (other, refl))
