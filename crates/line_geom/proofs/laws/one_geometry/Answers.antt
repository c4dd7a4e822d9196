use Rattle.line_geom.proofs.Geometries.{geom_has, geom_of_is}
use Rattle.line_geom.proofs.laws.one_geometry.Goals as goal

pub returns : goal.returns
returns c = λ mv l g. (geom_has mv l g, geom_of_is mv l g)
