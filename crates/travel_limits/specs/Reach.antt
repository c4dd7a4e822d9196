-- Where a point lies: in reach of the machine's zero, within travel, and at which place in steps.
use Rattle.std.specs.Prelude.{ℕ, ◌*◌, Bool, ◌&&◌, ◌||◌, nat_lt, List, ℤ, pos, neg_ℤ, int_lt, nat_abs}
use Rattle.std.specs.List.{list_any}
use Rattle.units.specs.declared.Nm3.{Nm3}
use Rattle.units.specs.declared.Steps3.{Steps3}
use Rattle.units.specs.declared.Per3.{Per3}
use Rattle.units.specs.Lengths.{IsInReach, steps_of}
use Rattle.settings.specs.declared.Settings.{Settings}

-- within 10,000 mm on each axis
pub record IsNear (at : Nm3) : Type 0 where
  pub x : IsInReach at.x
  pub y : IsInReach at.y
  pub z : IsInReach at.z

-- beyond 10,000 mm on some axis
abbrev pub is_far : Nm3 → Bool
is_far at = nat_lt 10000000000 (nat_abs at.x) || nat_lt 10000000000 (nat_abs at.y) || nat_lt 10000000000 (nat_abs at.z)

-- above 0, or below minus the travel, which is in µm
abbrev pub is_off_axis : ℕ → ℤ → Bool
is_off_axis travel z = int_lt (pos 0) z || int_lt z (neg_ℤ (pos (travel * 1000)))

abbrev pub is_outside : Per3 → Nm3 → Bool
is_outside travel at = is_off_axis travel.x at.x || is_off_axis travel.y at.y || is_off_axis travel.z at.z

-- soft limits are on, and one of these points lies outside travel on some axis
abbrev pub leave_travel : Settings → List Nm3 → Bool
leave_travel s points = s.soft && list_any (is_outside s.travel) points

-- a point in steps
abbrev pub steps3 : Per3 → Nm3 → Steps3
steps3 per_mm at = record { x = steps_of at.x per_mm.x; y = steps_of at.y per_mm.y; z = steps_of at.z per_mm.z }
