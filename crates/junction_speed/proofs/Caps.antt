-- The three cases of a junction.
use Rattle.std.proofs.Common.{◌≡◌, ℕ, true, false, min, ℤ, pos, neg_ℤ, int_lt, refl, sym, ap}
use Rattle.line_geom.specs.declared.Geom.{Geom}
use Rattle.line_geom.specs.declared.Cap.TheVariants.{At, Free}
use Rattle.line_geom.specs.Junctions.{turn_of, cap_at, corner_of, sine_of, junction_of}

pub cap_back : (c : ℤ) (a d : ℕ) → int_lt (pos 999999) c ≡ true → cap_at c a d ≡ At 0
cap_back c a d back = rw back refl

pub cap_on : (c : ℤ) (a d : ℕ) → int_lt (pos 999999) c ≡ false → int_lt c (neg_ℤ (pos 999999)) ≡ true → cap_at c a d ≡ Free
cap_on c a d back on = rw (back, on) refl

pub cap_corner : (c : ℤ) (a d : ℕ) → int_lt (pos 999999) c ≡ false → int_lt c (neg_ℤ (pos 999999)) ≡ false
    → cap_at c a d ≡ At (min (corner_of a d (sine_of c)) 18446744073709551615)
cap_corner c a d back on = rw (back, on) refl

pub junction_at : (p n : Geom) (d : ℕ) (c : ℤ) → c ≡ turn_of p n → junction_of p n d ≡ cap_at c (min p.accel n.accel) d
unfolding junction_of
junction_at p n d c is = ap (λ t. cap_at t (min p.accel n.accel) d) (sym is)
