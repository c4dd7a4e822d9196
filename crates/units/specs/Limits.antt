-- The ranges of what bounds a move, and of how fast it is to go.
use Rattle.std.specs.Prelude.{ℕ, ◌≤◌, ℤ, pos, ◌≤ℤ◌}
use Rattle.units.specs.Lengths.{IsScale}
use Rattle.units.specs.declared.Per3.{Per3}
use Rattle.units.specs.declared.Limits.{Limits}
use Rattle.units.specs.declared.Rate.{Rate}
use Rattle.units.specs.declared.Rate.TheVariants.{Rapid, Feed, Jog}

-- the greatest rate of an axis, in µm per minute, or its acceleration, in µm/s²
abbrev pub IsAxisCap : ℕ → Type 0
IsAxisCap cap = (1000 ≤ cap) × (cap ≤ 1000000000)

-- a fact of the number of each axis
pub record OnEachAxis (P : ℕ → Type 0) (p : Per3) : Type 0 where
  pub x : P p.x
  pub y : P p.y
  pub z : P p.z

pub record IsLimits (l : Limits) : Type 0 where
  pub per_mm : OnEachAxis IsScale l.per_mm
  pub rate : OnEachAxis IsAxisCap l.rate
  pub accel : OnEachAxis IsAxisCap l.accel

-- a feed in nm per minute
abbrev pub IsFeed : ℤ → Type 0
IsFeed feed = (pos 0 ≤ℤ feed) × (feed ≤ℤ pos 30000000000000000)

-- a rate whose feed is one
abbrev pub IsRate : Rate → Type 0
IsRate Rapid = Unit {0}
IsRate (Feed feed) = IsFeed feed
IsRate (Jog feed) = IsFeed feed
