-- Where a move is after some of its events.
use Rattle.std.specs.Prelude.{ℕ, ℤ, ◌+ℤ◌, nat_abs, List, [], ◌∷◌}
use Rattle.units.specs.declared.Steps3.{Steps3}
use Rattle.units.specs.declared.Move.{Move}
use Rattle.units.specs.Rounding.{with_sign_of}
use Rattle.step_line.specs.declared.Bits.{Bits}
use Rattle.step_line.specs.Counting.{count, way, events_of}

-- where an axis is that goes d from a place, after k of N events
unfoldable pub axis_after : ℤ → ℤ → ℕ → ℕ → ℤ
axis_after from d N k = from +ℤ with_sign_of d (count (nat_abs d) N k)

-- where a move is after k of its events
unfoldable pub place_after : Move → ℕ → Steps3
place_after m k = record {
  x = axis_after m.from.x (way m).x (events_of m) k;
  y = axis_after m.from.y (way m).y (events_of m) k;
  z = axis_after m.from.z (way m).z (events_of m) k;
}

-- a place, one event further
abbrev pub stepped : Steps3 → Bits → Steps3
stepped p b = record { x = p.x +ℤ b.x; y = p.y +ℤ b.y; z = p.z +ℤ b.z }

-- a place, some events further: their sum
abbrev pub stepped_by : Steps3 → List Bits → Steps3
stepped_by p [] = p
stepped_by p (b ∷ bs) = stepped_by (stepped p b) bs
