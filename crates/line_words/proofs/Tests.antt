-- Tests that compute.
use Rattle.std.proofs.Common.{◌≡◌, ℕ, zero, suc, ◌<◌, Bool, true, false, cond, ◌&&◌, ◌||◌, ◌==◌, List, [], ◌∷◌, length, get_or, refl, arith, Some, None, Option}
use Rattle.std.proofs.lemmas.Bool.Decides.{nat_tests}
use Rattle.code_table.specs.declared.Code.{Code}
use Rattle.code_table.specs.Refusals.{first_refusal}

pub or_false : (a b : Bool) → (a || b) ≡ false → (a ≡ false) × (b ≡ false)
or_false true b e = absurd cc
or_false false b e = (refl, e)

pub and_true : (a b : Bool) → (a && b) ≡ true → (a ≡ true) × (b ≡ true)
and_true true b e = (refl, e)
and_true false b e = absurd cc

pub is_same : (a b : ℕ) → (a == b) ≡ true → a ≡ b
is_same a b e = grind (arith, nat_tests)

passes : (b : Bool) (code : Code) (rest : Option Code) → cond b (Some code) rest ≡ None → (b ≡ false) × (rest ≡ None)
passes true code rest e = absurd cc
passes false code rest e = (refl, e)

-- where nothing is refused, no condition holds
pub row_passes : (rows : List (ℕ × Bool)) (i : ℕ) (d : ℕ × Bool) → first_refusal rows ≡ None → i < length rows → (get_or rows i d).1 ≡ false
row_passes [] i d e h = absurd (omega arith)
row_passes (row ∷ rows) zero d e h = (passes row.1 (record { 0 = row.0 }) (first_refusal rows) e).0
row_passes (row ∷ rows) (suc i) d e h = row_passes rows i d (passes row.1 (record { 0 = row.0 }) (first_refusal rows) e).1 (omega arith)
