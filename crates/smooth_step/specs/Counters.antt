-- The counters of the axes, and the fine count.
use Rattle.std.specs.Prelude.{◌≡◌, ℕ, ◌+◌, ◌*◌, ◌≤◌, ◌<◌, ℤ, nat_abs}
use Rattle.units.specs.declared.Move.{Move}
use Rattle.units.specs.Rounding.{with_sign_of}
use Rattle.units.specs.Counting.{way, events_of}
use Rattle.smooth_step.specs.declared.axis.Axis.{Axis}
use Rattle.smooth_step.specs.declared.axes.Axes.{Axes}
use Rattle.smooth_step.specs.Subticks.{fine}

-- so much is left of the counter of an axis of a steps, after t eighths of events, where the move has N events
pub record IsCounter (left a N t : ℕ) : Type 0 where
  pub within : a ≤ N
  pub below : 0 < N → left < 8 * N
  pub sum : 8 * N * (fine a N t + 1) ≡ a * t + 4 * N + left

-- an axis that goes d
pub record IsAxis (axis : Axis) (d : ℤ) (N t : ℕ) : Type 0 where
  pub count : axis.count ≡ nat_abs d
  pub step : axis.step ≡ with_sign_of d 1
  pub counter : IsCounter axis.left axis.count N t

-- the axes of a move
pub record AreAxes (axes : Axes) (m : Move) (t : ℕ) : Type 0 where
  pub x : IsAxis axes.x (way m).x (events_of m) t
  pub y : IsAxis axes.y (way m).y (events_of m) t
  pub z : IsAxis axes.z (way m).z (events_of m) t

-- a counter that can go on
pub record CanStep (axis : Axis) (N : ℕ) : Type 0 where
  pub within : axis.count ≤ N
  pub high : axis.left ≤ 8 * N

pub record CanAllStep (axes : Axes) (N : ℕ) : Type 0 where
  pub x : CanStep axes.x N
  pub y : CanStep axes.y N
  pub z : CanStep axes.z N
