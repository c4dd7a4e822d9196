-- Quotients of products, as calls tell them: each number is read in 64 bits.
use Rattle.std.proofs.Common.{◌≡◌, ℕ, ◌≤◌, ℤ, pos, ◌*ℤ◌, nat_abs, to_z, of_z, w64, refl, ap, ◌∙◌, arith, lit<}
use Rattle.std.proofs.lemmas.Int.{to_z-of_z, to_z_pos, fits_signed_mul}
use mir.Val.{SFits}
use Rattle.units.specs.Rounding.{rounded_quotient}

pub factors : (a : ℤ) (f : ℕ) → SFits w64 a → f ≤ 10000000 → to_z w64 (of_z w64 a) *ℤ to_z w64 f ≡ a *ℤ pos f
factors a f fits small = rw (to_z-of_z w64 a fits, to_z_pos w64 f (omega (arith, small))) refl

pub factor : (a : ℤ) (f : ℕ) → SFits w64 a → to_z w64 (of_z w64 a) *ℤ pos f ≡ a *ℤ pos f
factor a f fits = rw (to_z-of_z w64 a fits) refl

pub steps_fit : (a : ℤ) (f : ℕ) → nat_abs a ≤ 10000000000 → f ≤ 10000000 → SFits w64 (a *ℤ pos f)
steps_fit a f le small = fits_signed_mul w64 a (pos f) 10000000000 10000000 le small (lit< tt)

pub nm_fit : (a : ℤ) (f : ℕ) → nat_abs a ≤ 100000000 → f ≤ 1000000000 → SFits w64 (a *ℤ pos f)
nm_fit a f le small = fits_signed_mul w64 a (pos f) 100000000 1000000000 le small (lit< tt)

pub told : (r p q : ℤ) (d : ℕ) → SFits w64 r → SFits w64 q → p ≡ q → r ≡ rounded_quotient (to_z w64 (of_z w64 p)) d → to_z w64 (of_z w64 r) ≡ rounded_quotient q d
told r p q d fits_r fits_q same is =
    to_z-of_z w64 r fits_r ∙ is ∙ ap (λ t. rounded_quotient (to_z w64 (of_z w64 t)) d) same ∙ ap (λ t. rounded_quotient t d) (to_z-of_z w64 q fits_q)
