-- Lengths behind a cast to bits and back.
use Rattle.std.proofs.Common.{◌≡◌, ◌≤◌, ◌-ℤ◌, ℤ, pos, negsuc, nat_abs, to_z, of_z, w64, refl, ◌∙◌, ap, arith, Option, option_map}
use Rattle.std.proofs.lemmas.Int.{to_z-of_z}
use Rattle.units.specs.Lengths.{minus}
use Rattle.units.specs.declared.Nm3.{Nm3}
use Rattle.modal_state.specs.Modes.{farthest}
use Rattle.line_words.specs.Targets.{longest}
use Rattle.line_words.specs.declared.axes.Lengths.{Lengths}
use Rattle.gcode_check.specs.NewOffsets.{less}

-- a length that is near fits
pub kept : (z : ℤ) → nat_abs z ≤ longest → to_z w64 (of_z w64 z) ≡ z
kept (pos n) near = to_z-of_z w64 (pos n) (record { sfits = omega arith })
kept (negsuc n) near = to_z-of_z w64 (negsuc n) (record { sfits = omega arith })

-- and is as near
pub as_far : (z : ℤ) → nat_abs z ≤ farthest → nat_abs (to_z w64 (of_z w64 z)) ≤ farthest
as_far z near = rw (kept z (omega (arith, near))) near

pub as_long : (z : ℤ) → nat_abs z ≤ longest → nat_abs (to_z w64 (of_z w64 z)) ≤ longest
as_long z near = rw (kept z near) near

pub difference_is : (a b r : ℤ) → nat_abs a ≤ farthest → nat_abs b ≤ farthest → nat_abs r ≤ longest → r ≡ to_z w64 (of_z w64 a) -ℤ to_z w64 (of_z w64 b) → to_z w64 (of_z w64 r) ≡ a -ℤ b
difference_is a b r near there size e = kept r size ∙ e ∙ rw (kept a (omega (arith, near)), kept b (omega (arith, there))) refl

pub minus_is : (a b : Nm3) (x y z : ℤ) → x ≡ a.x -ℤ b.x → y ≡ a.y -ℤ b.y → z ≡ a.z -ℤ b.z → (let way : Nm3 = record { x = x; y = y; z = z } in way) ≡ minus a b
minus_is a b x y z ex ey ez = rw (ex, ey, ez) refl

pub rest_is : (from : ℤ) (named rest : Option ℤ) → nat_abs from ≤ longest → rest ≡ option_map (λ v. to_z w64 (of_z w64 from) -ℤ v) named → rest ≡ option_map (λ v. from -ℤ v) named
rest_is from named rest near e = e ∙ ap (λ (f : ℤ). option_map (λ v. f -ℤ v) named) (kept from near)

pub less_is : (from : Nm3) (named : Lengths) (x y z : Option ℤ) → x ≡ option_map (λ v. from.x -ℤ v) named.x → y ≡ option_map (λ v. from.y -ℤ v) named.y
    → z ≡ option_map (λ v. from.z -ℤ v) named.z → (let rest : Lengths = record { x = x; y = y; z = z } in rest) ≡ less from named
less_is from named x y z ex ey ez = rw (ex, ey, ez) refl
