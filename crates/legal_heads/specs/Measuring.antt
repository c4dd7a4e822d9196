-- A head with the geometry of its move.
use Rattle.std.specs.Prelude.{◌≡◌}
use Rattle.line_geom.specs.declared.Geom.{Geom}
use Rattle.line_geom.specs.Geometry.{IsGeom, IsBounded}
use Rattle.legal_heads.specs.declared.ToldHead.{ToldHead}
use Rattle.legal_heads.specs.Moves.{geometry_of}
use Rattle.step_line.specs.Asking.{IsPlannedMove}

-- a head's move may be planned, and has this geometry
pub record IsMeasured (h : ToldHead) (g : Geom) : Type 0 where
  pub move : IsPlannedMove h.planned
  pub same : g ≡ geometry_of h.planned
  pub fields : IsGeom h.planned.mv h.planned.limits g
  pub bounds : IsBounded g
