use Rattle.line_geom.proofs.Geometries.{bounded}
use Rattle.line_geom.proofs.laws.bounds.Goals as goal

pub returns : goal.returns
returns c = λ mv g is. bounded mv is.limits g is.places is.in_range is.geom
