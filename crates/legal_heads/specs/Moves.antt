-- Moves as they are planned, and how fast one may follow another.
use Rattle.std.specs.Prelude.{ℕ, ◌*◌, ◌^◌, ◌<◌, ◌≤◌, min}
use Rattle.line_geom.specs.declared.Geom.{Geom}
use Rattle.line_geom.specs.Geometry.{geometry}
use Rattle.line_geom.specs.Junctions.{junction_of}
use Rattle.line_geom.specs.Caps.{under, squared}
use Rattle.step_line.specs.declared.planned_move.PlannedMove.{PlannedMove}

-- its geometry under its limits
abbrev pub geometry_of : PlannedMove → Geom
geometry_of m = geometry m.mv m.limits

-- how much the squared speed may change over n of its events
abbrev pub change_over : PlannedMove → ℕ → ℕ
change_over m n = (geometry_of m).q * n

-- the greatest squared speed that its axes allow
abbrev pub fastest : PlannedMove → ℕ
fastest m = squared (geometry_of m).rapid

-- the greatest squared speed at which a move may end where another begins: what their junction, and the axes of both,
-- allow
unfoldable pub fastest_joint : PlannedMove → PlannedMove → ℕ
fastest_joint a b = under (junction_of (geometry_of a) (geometry_of b) b.deviation) (min (fastest a) (fastest b))
