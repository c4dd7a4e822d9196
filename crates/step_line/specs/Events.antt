-- The events of a straight move, in order.
use Rattle.std.specs.Prelude.{ℕ, zero, suc, ◌+◌, ◌-◌, ◌≤◌, ◌<◌, Bool, cond, nat_lt, ℤ, pos, nat_abs, List, [], ◌∷◌}
use Rattle.units.specs.declared.Move.{Move}
use Rattle.units.specs.Rounding.{with_sign_of}
use Rattle.step_line.specs.declared.Bits.{Bits}
use Rattle.step_line.specs.Counting.{count, way, events_of}

-- whether event k steps an axis: if its count rises
unfoldable pub steps_at : ℕ → ℕ → ℕ → Bool
steps_at a N k = nat_lt (count a N (k - 1)) (count a N k)

-- what event k does to an axis that goes d
abbrev pub bit_at : ℤ → ℕ → ℕ → ℤ
bit_at d N k = cond (steps_at (nat_abs d) N k) (with_sign_of d 1) (pos 0)

-- event k of a move; the first is event 1
unfoldable pub event_of : Move → ℕ → Bits
event_of m k = record {
  x = bit_at (way m).x (events_of m) k;
  y = bit_at (way m).y (events_of m) k;
  z = bit_at (way m).z (events_of m) k;
}

-- the n events of a move that come after its first k
abbrev pub events_after : Move → ℕ → ℕ → List Bits
events_after m k zero = []
events_after m k (suc n) = event_of m (k + 1) ∷ events_after m (k + 1) n

-- all events of a move
abbrev pub line_events : Move → List Bits
line_events m = events_after m 0 (events_of m)

-- an event steps each axis by one at most, and some axis
pub record IsEvent (b : Bits) : Type 0 where
  pub x : nat_abs b.x ≤ 1
  pub y : nat_abs b.y ≤ 1
  pub z : nat_abs b.z ≤ 1
  pub some : 0 < nat_abs b.x + nat_abs b.y + nat_abs b.z
