-- Rows that were put into the order of their keys.
use Rattle.std.proofs.Common.{◌≡◌, ℕ, ◌<◌, true, List, [], ◌∷◌, length, refl, sym, ◌∙◌, ap, subst, arith, zip}
use Rattle.std.specs.Prelude.{nat_eq}
use Rattle.std.specs.List.{IsDistinct}
use Rattle.std.specs.List.Sorted.{IsPermutation, IsNonDecreasing, IsNonDecreasingBy}
use Rattle.std.specs.Map.{keys_of, values_of}
use Rattle.std.proofs.lemmas.List.{get_or-map}
use Rattle.std.proofs.lemmas.List.Sorted.{IsPermutation-sym}
use Rattle.std.proofs.lemmas.Map.Entries.{length-keys_of, length-values_of}
use Rattle.std.proofs.lemmas.Map.Keys.{IsStrictlyIncreasing-from_distinct}
use Rattle.std.proofs.lemmas.Map.Made.{keys_of-zip}
use Rattle.code_table.specs.Tables.{Row, AnswersAs, IsReordered, rises}
use Rattle.code_table.proofs.Order.{distinct, rises_from}
use Rattle.code_table.proofs.Rows.{once_moved, answers_moved}

zip-columns : (rows : List Row) → zip (keys_of rows) (values_of rows) ≡ rows
zip-columns [] = refl
zip-columns (row ∷ rows) = ap (λ rest. row ∷ rest) (zip-columns rows)

keys_in_order : (rows : List Row) → IsNonDecreasingBy (λ row. row.0) rows → IsNonDecreasing (keys_of rows)
keys_in_order rows order i j d h k =
    let within : j < length rows = simp length-keys_of at k in
    rw (get_or-map (λ (row : Row). row.0) rows i (d, 0) d (omega arith), get_or-map (λ (row : Row). row.0) rows j (d, 0) d within)
    (order i j (d, 0) h within)

pub reordered : (rows sorted : List Row) (keys values : List ℕ) → IsPermutation rows sorted → IsNonDecreasingBy (λ row. row.0) sorted
    → keys ≡ keys_of sorted → values ≡ values_of sorted → IsReordered rows keys values
reordered rows sorted keys values moved order keys_are values_are = record {
  same_rows = subst (IsPermutation rows) (sym (zip-columns sorted) ∙ ap (λ (ks : List ℕ). zip ks (values_of sorted)) (sym keys_are) ∙ ap (zip keys) (sym values_are)) moved;
  in_order = subst IsNonDecreasing (sym keys_are) (keys_in_order sorted order);
  whole = ap length values_are ∙ length-values_of sorted ∙ sym (length-keys_of sorted) ∙ sym (ap length keys_are);
}

-- the columns of a table that is made of others
module _ (keys values : List ℕ) (made : List Row) (sorted_keys sorted_values : List ℕ)
    (whole : length values ≡ length keys) (made_is : made ≡ zip keys values) (sorted : IsReordered made sorted_keys sorted_values) where
  r : IsReordered (zip keys values) sorted_keys sorted_values
  r = subst (λ (rows : List Row). IsReordered rows sorted_keys sorted_values) made_is sorted

  once_back : IsDistinct nat_eq sorted_keys → IsDistinct nat_eq keys
  once_back once =
      subst (IsDistinct nat_eq) (keys_of-zip keys values whole)
      (once_moved (zip sorted_keys sorted_values) (zip keys values) (IsPermutation-sym _ _ r.same_rows)
      (subst (IsDistinct nat_eq) (sym (keys_of-zip sorted_keys sorted_values r.whole)) once))

  once_on : IsDistinct nat_eq keys → IsDistinct nat_eq sorted_keys
  once_on once =
      subst (IsDistinct nat_eq) (keys_of-zip sorted_keys sorted_values r.whole)
      (once_moved (zip keys values) (zip sorted_keys sorted_values) r.same_rows
      (subst (IsDistinct nat_eq) (sym (keys_of-zip keys values whole)) once))

  pub once_from_rises : rises sorted_keys ≡ true → IsDistinct nat_eq keys
  once_from_rises up = once_back (distinct sorted_keys up)

  pub rises_from_once : IsDistinct nat_eq keys → rises sorted_keys ≡ true
  rises_from_once once = rises_from sorted_keys (IsStrictlyIncreasing-from_distinct sorted_keys r.in_order (once_on once))

  pub answers_from_rises : rises sorted_keys ≡ true → AnswersAs (zip sorted_keys sorted_values) (zip keys values)
  answers_from_rises up key =
      sym (answers_moved (zip sorted_keys sorted_values) (zip keys values) (IsPermutation-sym _ _ r.same_rows)
      (subst (IsDistinct nat_eq) (sym (keys_of-zip sorted_keys sorted_values r.whole)) (distinct sorted_keys up)) key)
