-- How far an axis goes, with a sign.
use Rattle.std.proofs.Common.{◌≡◌, ℕ, ◌≤◌, ℤ, pos, negsuc, ◌-ℤ◌, ◌≤ℤ◌, ◌<ℤ◌, to_z, of_z, w32, nat_abs, refl, arith, rules}
use Rattle.std.proofs.lemmas.Int.{to_z_pos, to_z-of_z, ints}
use mir.Val.{SFits}
use Rattle.units.specs.Rounding.{with_sign_of}

pub on : (p : ℕ) → p ≤ 1000000 → to_z w32 p ≡ pos p
on p small = to_z_pos w32 p (omega (arith, small))

back_fits : (p : ℕ) → p ≤ 1000000 → SFits w32 (pos 0 -ℤ pos p)
back_fits p small = search (rules, small)

pub back : (p : ℕ) → p ≤ 1000000 → to_z w32 (of_z w32 (pos 0 -ℤ to_z w32 p)) ≡ pos 0 -ℤ pos p
back p small = rw (on p small) (to_z-of_z w32 (pos 0 -ℤ pos p) (back_fits p small))

sign_on : (d : ℤ) (p : ℕ) → pos 0 ≤ℤ d → pos p ≡ with_sign_of d p
sign_on (pos n) p h = refl
sign_on (negsuc n) p h = absurd (omega (arith, ints, h))

sign_back : (d : ℤ) (p : ℕ) → d <ℤ pos 0 → pos 0 -ℤ pos p ≡ with_sign_of d p
sign_back (pos n) p h = absurd (omega (arith, ints, h))
sign_back (negsuc n) p h = omega (arith, ints)

pub way_on : (from to : ℤ) (p : ℕ) → from ≤ℤ to → pos p ≡ with_sign_of (to -ℤ from) p
way_on from to p h = sign_on (to -ℤ from) p (omega (arith, ints, h))

pub way_back : (from to : ℤ) (p : ℕ) → to <ℤ from → pos 0 -ℤ pos p ≡ with_sign_of (to -ℤ from) p
way_back from to p h = sign_back (to -ℤ from) p (omega (arith, ints, h))

pub size_back : (p : ℕ) → nat_abs (pos 0 -ℤ pos p) ≡ p
size_back p = omega (arith, ints)
