-- The last of some places.
use Rattle.std.proofs.Common.{◌≡◌, ℕ, zero, suc, ◌-◌, ◌≤◌, List, [], ◌∷◌, length, get_or, refl, arith}
use Rattle.gcode_check.specs.Effects.{last_of}

last_at : {A : Type 0} (xs : List A) (n : ℕ) (at d : A) → suc n ≡ length xs → get_or xs n d ≡ last_of at xs
last_at [] n at d e = absurd (omega arith)
last_at (x ∷ []) zero at d e = refl
last_at (x ∷ []) (suc n) at d e = absurd (omega arith)
last_at (x ∷ y ∷ ys) zero at d e = absurd (omega arith)
last_at (x ∷ y ∷ ys) (suc n) at d e = last_at (y ∷ ys) n x d (omega arith)

pub last_is : {A : Type 0} (xs : List A) (at d : A) → 1 ≤ length xs → get_or xs (length xs - 1) d ≡ last_of at xs
last_is xs at d some = last_at xs (length xs - 1) at d (omega arith)
