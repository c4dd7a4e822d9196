-- The cap on the squared speed where one move ends and the next begins.
use Rattle.std.specs.Prelude.{◌≡◌, ℕ, ◌+◌, ◌-◌, ◌*◌, ◌/◌, min, if◌then◌else◌, ℤ, pos, neg_ℤ, ◌+ℤ◌, ◌-ℤ◌, ◌*ℤ◌, nat_abs, int_lt}
use Rattle.std.specs.Int.{int_div_euclid}
use Rattle.units.specs.Roots.{root_of}
use Rattle.line_geom.specs.declared.Geom.{Geom}
use Rattle.line_geom.specs.declared.Cap.{Cap}
use Rattle.line_geom.specs.declared.Cap.TheVariants.{At, Free}

-- the cosine of the turn, in millionths, rounded down: -1,000,000 if the next move goes on straight, 1,000,000
-- if it goes straight back
abbrev pub turn_of : Geom → Geom → ℤ
turn_of p n = int_div_euclid (neg_ℤ (p.ux *ℤ n.ux +ℤ p.uy *ℤ n.uy +ℤ p.uz *ℤ n.uz)) (pos 1000000)

-- the sine of half the angle between the moves, in millionths
abbrev pub sine_of : ℤ → ℕ
sine_of c = root_of (nat_abs (pos 1000000 -ℤ c) * 1000000 / 2)

-- the squared speed at which a circle that is off the corner by d µm has the acceleration a
abbrev pub corner_of : ℕ → ℕ → ℕ → ℕ
corner_of a d s = a * d * s / (1000000 - s)

abbrev pub cap_at : ℤ → ℕ → ℕ → Cap
cap_at c a d =
    if int_lt (pos 999999) c then At 0 else
    (if int_lt c (neg_ℤ (pos 999999)) then Free else
    At (min (corner_of a d (sine_of c)) 18446744073709551615))

unfoldable pub junction_of : Geom → Geom → ℕ → Cap
junction_of p n d = cap_at (turn_of p n) (min p.accel n.accel) d

-- the next move goes straight back
pub record IsReversed (p n : Geom) : Type 0 where
  pub x : n.ux ≡ neg_ℤ p.ux
  pub y : n.uy ≡ neg_ℤ p.uy
  pub z : n.uz ≡ neg_ℤ p.uz

-- the square of a direction's length, in millionths of millionths: 1,000,000,000,000 less what rounding took
abbrev pub squared_length : Geom → ℕ
squared_length g = nat_abs g.ux * nat_abs g.ux + nat_abs g.uy * nat_abs g.uy + nat_abs g.uz * nat_abs g.uz
