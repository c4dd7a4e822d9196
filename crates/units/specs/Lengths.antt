-- Lengths in nanometres, in steps and in thousandths of a millimetre.
use Rattle.std.specs.Prelude.{ℕ, ◌≤◌, ◌*◌, ◌/◌, ℤ, pos, ◌-ℤ◌, ◌*ℤ◌, nat_abs}
use Rattle.units.specs.Rounding.{rounded_quotient, with_sign_of}
use Rattle.units.specs.declared.Nm3.{Nm3}
use Rattle.units.specs.declared.Steps3.{Steps3}
use Rattle.units.specs.declared.Move.{Move}

-- steps per mm, in thousandths of a step
abbrev pub IsScale : ℕ → Type 0
IsScale per_mm = (1000 ≤ per_mm) × (per_mm ≤ 10000000)

-- a length within 10,000 mm of zero, in nm
abbrev pub IsInReach : ℤ → Type 0
IsInReach nm = nat_abs nm ≤ 10000000000

-- a place on an axis, in steps
abbrev pub IsCoordinate : ℤ → Type 0
IsCoordinate steps = nat_abs steps ≤ 100000000

-- a place on each axis
pub record IsPlace (p : Steps3) : Type 0 where
  pub x : IsCoordinate p.x
  pub y : IsCoordinate p.y
  pub z : IsCoordinate p.z

-- a move between two places
pub record IsMove (m : Move) : Type 0 where
  pub from : IsPlace m.from
  pub to : IsPlace m.to

-- the steps of a length in nm
abbrev pub steps_of : ℤ → ℕ → ℤ
steps_of nm per_mm = rounded_quotient (nm *ℤ pos per_mm) 1000000000

-- the length of steps, in nm
abbrev pub nm_of : ℤ → ℕ → ℤ
nm_of steps per_mm = rounded_quotient (steps *ℤ pos 1000000000) per_mm

-- the length of steps, in thousandths of a mm
abbrev pub thousandths_of : ℤ → ℕ → ℤ
thousandths_of steps per_mm = rounded_quotient (steps *ℤ pos 1000000) per_mm

-- a length in nm, in thousandths of a mm
abbrev pub thousandths_of_nm : ℤ → ℤ
thousandths_of_nm nm = rounded_quotient nm 1000

-- millionths of an inch, in nm: an inch is 25.4 mm, and parts of a nm are cut off
unfoldable pub nm_of_inch : ℤ → ℤ
nm_of_inch micro = with_sign_of micro (nat_abs micro * 254 / 10)

-- a place, counted from another
abbrev pub minus : Nm3 → Nm3 → Nm3
minus at from = record { x = at.x -ℤ from.x; y = at.y -ℤ from.y; z = at.z -ℤ from.z }
