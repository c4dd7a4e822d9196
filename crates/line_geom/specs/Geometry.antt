-- The geometry of a straight move, by floors and roots.
use Rattle.std.specs.Prelude.{◌≡◌, ℕ, ◌+◌, ◌*◌, ◌/◌, ◌≤◌, ◌<◌, ◌⊎◌, min, max, cond, nat_eq, ℤ, nat_abs, List, [], ◌∷◌, ◌++◌, Some, None}
use Rattle.std.specs.declared.option.Option.{Option}
use Rattle.units.specs.declared.Per3.{Per3}
use Rattle.units.specs.declared.Move.{Move}
use Rattle.units.specs.declared.Limits.{Limits}
use Rattle.units.specs.Rounding.{with_sign_of}
use Rattle.units.specs.Roots.{root_of}
use Rattle.units.specs.Lengths.{IsMove}
use Rattle.units.specs.Limits.{IsLimits}
use Rattle.units.specs.Counting.{way, events_of}
use Rattle.line_geom.specs.declared.Geom.{Geom}

-- the length of a steps at p thousandths of a step per mm, in nm
abbrev pub axis_length : ℕ → ℕ → ℕ
axis_length a p = a * 1000000000 / p

-- the length of a line that goes so far along each axis
unfoldable pub line_length : ℕ → ℕ → ℕ → ℕ
line_length x y z = max 1 (root_of (x * x + y * y + z * z))

-- how long a move is, in nm
abbrev pub length_of : Move → Per3 → ℕ
length_of mv p = line_length (axis_length (nat_abs (way mv).x) p.x) (axis_length (nat_abs (way mv).y) p.y) (axis_length (nat_abs (way mv).z) p.z)

-- how far an axis of d steps goes along a line of that length, in millionths of the line
abbrev pub unit_of : ℤ → ℕ → ℕ → ℤ
unit_of d p length = with_sign_of d (axis_length (nat_abs d) p * 1000000 / length)

-- what an axis's cap allows along a line if the axis goes u millionths of it; no cap if the axis doesn't move
abbrev pub axis_cap : ℕ → ℕ → List ℕ
axis_cap cap u = cond (nat_eq u 0) [] (cap * 1000000 / u ∷ [])

abbrev pub axis_caps : Per3 → ℤ → ℤ → ℤ → List ℕ
axis_caps cap ux uy uz = axis_cap cap.x (nat_abs ux) ++ axis_cap cap.y (nat_abs uy) ++ axis_cap cap.z (nat_abs uz)

-- the least number of a list that isn't empty
abbrev pub least : List ℕ → ℕ
least [] = 0
least (x ∷ []) = x
least (x ∷ y ∷ ys) = min x (least (y ∷ ys))

-- an axis's cap as a number: the greatest u64 if the axis sets none
abbrev pub IsShare : ℕ → List ℕ → Type 0
IsShare r xs = ((xs ≡ []) × (r ≡ 18446744073709551615)) ⊎ ((xs ≡ r ∷ []) × (r < 18446744073709551615))

-- the geometry of a move of at least one step: its events, its length in nm, its unit in millionths, the greatest
-- acceleration and speed along it in µm/s² and µm/s, and how much the squared speed may change over one event
pub record IsGeom (mv : Move) (l : Limits) (g : Geom) : Type 0 where
  pub moves : 0 < events_of mv
  pub n : g.n ≡ events_of mv
  pub length : g.length ≡ length_of mv l.per_mm
  pub ux : g.ux ≡ unit_of (way mv).x l.per_mm.x g.length
  pub uy : g.uy ≡ unit_of (way mv).y l.per_mm.y g.length
  pub uz : g.uz ≡ unit_of (way mv).z l.per_mm.z g.length
  pub accel : g.accel ≡ least (axis_caps l.accel g.ux g.uy g.uz)
  pub rapid : g.rapid ≡ least (axis_caps l.rate g.ux g.uy g.uz) / 60
  pub q : g.q ≡ 2 * g.accel * g.length / (1000 * g.n)

-- the one geometry that a move of at least one step has
unfoldable pub geometry : Move → Limits → Geom
geometry mv l =
    let n = events_of mv in
    let length = length_of mv l.per_mm in
    let ux = unit_of (way mv).x l.per_mm.x length in
    let uy = unit_of (way mv).y l.per_mm.y length in
    let uz = unit_of (way mv).z l.per_mm.z length in
    let accel = least (axis_caps l.accel ux uy uz) in
    let rapid = least (axis_caps l.rate ux uy uz) / 60 in
    record { n = n; length = length; ux = ux; uy = uy; uz = uz; accel = accel; rapid = rapid; q = 2 * accel * length / (1000 * n) }

unfoldable pub geom_of : Move → Limits → Option Geom
geom_of mv l = cond (nat_eq (events_of mv) 0) None (Some (geometry mv l))

-- the units of a line: some axis goes at least half as far as the line
pub record IsDirection (ux uy uz : ℤ) : Type 0 where
  pub x : nat_abs ux ≤ 1000000
  pub y : nat_abs uy ≤ 1000000
  pub z : nat_abs uz ≤ 1000000
  pub main : (500000 ≤ nat_abs ux) ⊎ (500000 ≤ nat_abs uy) ⊎ (500000 ≤ nat_abs uz)

-- the bounds of every geometry of a move under such limits
pub record IsBounded (g : Geom) : Type 0 where
  pub n_low : 1 ≤ g.n
  pub n_high : g.n ≤ 200000000
  pub length_low : 100 * g.n ≤ g.length
  pub length_high : g.length ≤ 2000000 * g.n
  pub direction : IsDirection g.ux g.uy g.uz
  pub accel_low : 1000 ≤ g.accel
  pub accel_high : g.accel ≤ 2000000000
  pub rapid_low : 16 ≤ g.rapid
  pub rapid_high : g.rapid ≤ 33333333
  pub q_low : 200 ≤ g.q
  pub q_high : g.q ≤ 8000000000000

-- g is the geometry of a move under some limits in range
pub record IsGeomOf (mv : Move) (g : Geom) : Type 0 where
  pub places : IsMove mv
  pub limits : Limits
  pub in_range : IsLimits limits
  pub geom : IsGeom mv limits g
