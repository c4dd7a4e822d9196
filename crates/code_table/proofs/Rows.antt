-- The rows of a table.
use Rattle.std.proofs.Common.{◌≡◌, ◌≢◌, ℕ, zero, suc, ◌<◌, true, false, List, [], ◌∷◌, length, get_or, refl, sym, arith, zip, Some, None, Option, Ok, Err}
use Rattle.std.specs.Prelude.{nat_eq}
use Rattle.std.specs.List.{IsDistinct}
use Rattle.std.specs.List.Sorted.{IsPermutation, IsBinarySearchResult}
use Rattle.std.specs.Ordering.{nat_cmp}
use Rattle.std.specs.Map.{keys_of}
use Rattle.std.proofs.lemmas.Bool.Decides.{nat_tests}
use Rattle.std.proofs.lemmas.Cmp.{nat_eq_equiv}
use Rattle.std.proofs.lemmas.List.Sorted.{IsPermutation-sym, IsPermutation-map, Contains-permutation, searched}
use Rattle.std.proofs.lemmas.Map.Keys.{apart_from_distinct, IsDistinct-tail, IsDistinct-IsPermutation}
use Rattle.std.proofs.lemmas.Map.Views.{lookup-from_Contains, Contains-from_lookup, exact_unsigned_eq}
use Rattle.code_table.specs.Tables.{Row, value_of, AnswersAs, rises}
use Rattle.code_table.proofs.Order.{distinct, in_order}

-- the row at a place has the key
pub found : (keys values : List ℕ) (place key : ℕ) → IsDistinct nat_eq keys → place < length keys → place < length values
    → get_or keys place 0 ≡ key → value_of key (zip keys values) ≡ Some (get_or values place 0)
found [] values place key once k v same = absurd (omega arith)
found (first ∷ keys) [] place key once k v same = absurd (omega arith)
found (first ∷ keys) (value ∷ values) zero key once k v same =
    let test : nat_eq key first ≡ true = grind (arith, nat_tests) in rw test refl
found (first ∷ keys) (value ∷ values) (suc place) key once k v same =
    let apart = apart_from_distinct nat_eq (first ∷ keys) 0 (suc place) 0 once (omega arith) k in
    let test : nat_eq key first ≡ false = grind (arith, nat_tests) in
    rw test (found keys values place key (IsDistinct-tail nat_eq first keys once) (omega arith) (omega arith) same)

-- no row has it
pub not_found : (keys values : List ℕ) (key : ℕ) → ((k : ℕ) → k < length keys → get_or keys k 0 ≢ key) → value_of key (zip keys values) ≡ None
not_found [] values key other = refl
not_found (first ∷ keys) [] key other = refl
not_found (first ∷ keys) (value ∷ values) key other =
    let apart = other 0 (omega arith) in
    let test : nat_eq key first ≡ false = grind (arith, nat_tests) in
    rw test (not_found keys values key (λ k h. other (suc k) (omega arith)))

same_answers : (a b : Option ℕ) → ((v : ℕ) → a ≡ Some v → b ≡ Some v) → ((v : ℕ) → b ≡ Some v → a ≡ Some v) → b ≡ a
same_answers (Some v) b there back = there v refl
same_answers None (Some v) there back = sym (back v refl)
same_answers None None there back = refl

flips : (x y : ℕ) → nat_eq x y ≡ nat_eq y x
flips x y = grind (arith, nat_tests)

pub once_moved : (rows others : List Row) → IsPermutation rows others → IsDistinct nat_eq (keys_of rows) → IsDistinct nat_eq (keys_of others)
once_moved rows others moved once =
    IsDistinct-IsPermutation nat_eq flips (keys_of rows) (keys_of others) (IsPermutation-map (λ (row : Row). row.0) rows others moved) once

-- rows in another order have the same values
pub answers_moved : (rows others : List Row) → IsPermutation rows others → IsDistinct nat_eq (keys_of rows) → AnswersAs others rows
answers_moved rows others moved once key = same_answers (value_of key rows) (value_of key others)
    (λ v e. lookup-from_Contains nat_eq_equiv key v others (once_moved rows others moved once)
    (Contains-permutation rows others (key, v) moved (Contains-from_lookup exact_unsigned_eq key v rows e)))
    (λ v e. lookup-from_Contains nat_eq_equiv key v rows once
    (Contains-permutation others rows (key, v) (IsPermutation-sym rows others moved) (Contains-from_lookup exact_unsigned_eq key v others e)))

-- what a search by halves says where it finds a place, and where it finds none
pub at_place : (keys values : List ℕ) (key place : ℕ) → rises keys ≡ true → length values ≡ length keys
    → IsBinarySearchResult (λ y. nat_cmp y key) keys (Ok place) → value_of key (zip keys values) ≡ Some (get_or values place 0)
at_place keys values key place up same_length result =
    let told = searched keys key (Ok place) result (in_order keys up) in
    found keys values place key (distinct keys up) told.0 (omega (arith, told.0)) told.1

pub at_gap : (keys values : List ℕ) (key gap : ℕ) → rises keys ≡ true
    → IsBinarySearchResult (λ y. nat_cmp y key) keys (Err gap) → value_of key (zip keys values) ≡ None
at_gap keys values key gap up result =
    let told = searched keys key (Err gap) result (in_order keys up) in
    not_found keys values key (λ k h. let below = told.1 k in let above = told.2 k in grind arith)
