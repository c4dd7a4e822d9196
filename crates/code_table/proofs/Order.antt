-- Keys of which each is below the next.
use Rattle.std.proofs.Common.{◌≡◌, ℕ, zero, suc, ◌+◌, ◌<◌, ◌≤◌, Bool, true, false, ◌&&◌, List, [], ◌∷◌, length, get_or, refl, sym, ◌-◌, arith, add-one, nat_lt}
use Rattle.std.specs.Prelude.{nat_eq}
use Rattle.std.specs.List.{IsDistinct}
use Rattle.std.specs.List.Sorted.{IsStrictlyIncreasing}
use Rattle.std.proofs.lemmas.Bool.Decides.{nat_tests}
use Rattle.std.proofs.lemmas.Map.Keys.{IsDistinct-from_apart, below_from_sorted, sorted_from_strictly_increasing, non_decreasing_from_sorted}
use Rattle.code_table.specs.Tables.{rises}

both : (a b : Bool) → (a && b) ≡ true → (a ≡ true) × (b ≡ true)
both true true h = (refl, refl)
both true false h = cc
both false b h = cc

below_next : (keys : List ℕ) → rises keys ≡ true → (k : ℕ) → suc k < length keys → get_or keys k 0 < get_or keys (suc k) 0
below_next [] up k h = absurd (omega arith)
below_next (key ∷ []) up k h = absurd (omega arith)
below_next (key ∷ next ∷ keys) up zero h =
    let here = (both (nat_lt key next) (rises (next ∷ keys)) up).0 in grind (arith, nat_tests)
below_next (key ∷ next ∷ keys) up (suc k) h =
    below_next (next ∷ keys) (both (nat_lt key next) (rises (next ∷ keys)) up).1 k (omega arith)

-- what the test over all keys says at each place
pub increasing : (keys : List ℕ) → rises keys ≡ true → IsStrictlyIncreasing keys
increasing keys up k h = rw add-one (below_next keys up k (omega arith))

all_rise : (keys : List ℕ) → ((k : ℕ) → suc k < length keys → get_or keys k 0 < get_or keys (suc k) 0) → rises keys ≡ true
all_rise [] up = refl
all_rise (key ∷ []) up = refl
all_rise (key ∷ next ∷ keys) up =
    let below = up 0 (omega arith) in
    let here : nat_lt key next ≡ true = grind (arith, nat_tests) in
    rw here (all_rise (next ∷ keys) (λ k h. up (suc k) (omega arith)))

pub rises_from : (keys : List ℕ) → IsStrictlyIncreasing keys → rises keys ≡ true
rises_from keys up = all_rise keys (λ k h. rw add-one at (up k (omega arith)))

-- keys that rise differ
pub distinct : (keys : List ℕ) → rises keys ≡ true → IsDistinct nat_eq keys
distinct keys up = IsDistinct-from_apart nat_eq keys (λ i j d h k.
    let below = below_from_sorted keys i j d (sorted_from_strictly_increasing keys (increasing keys up)) h k in
    grind (arith, nat_tests))

pub in_order : (keys : List ℕ) → rises keys ≡ true → (i j : ℕ) → i ≤ j → j < length keys → get_or keys i 0 ≤ get_or keys j 0
in_order keys up i j h k =
    non_decreasing_from_sorted keys (sorted_from_strictly_increasing keys (increasing keys up)) i j 0 h k

is_false : (b : Bool) → (b ≡ true → ⊥) → false ≡ b
is_false true wrong = absurd (wrong refl)
is_false false wrong = refl

-- a key at a place is no lower than the next
pub falls : (keys : List ℕ) (place : ℕ) → 0 < place → place < length keys → get_or keys place 0 ≤ get_or keys (place - 1) 0 → false ≡ rises keys
falls keys place some within h = is_false (rises keys) (λ up.
    let below = below_next keys up (place - 1) (omega arith) in
    let same : suc (place - 1) ≡ place = omega arith in
    let low = rw same at below in
    omega arith)

pub each_rises : (keys : List ℕ) (n : ℕ) → length keys ≤ n → ((k : ℕ) → k + 1 < n → get_or keys k 0 < get_or keys (k + 1) 0) → true ≡ rises keys
each_rises keys n whole up = sym (rises_from keys (λ k h. up k (omega arith)))
