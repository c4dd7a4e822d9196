use Rattle.std.proofs.Common.{rules, sym, ◌∙◌}
use Rattle.line_geom.proofs.Geometries.{no_geom, geom_of_is}
use Rattle.line_geom.proofs.measure.geom.Goals as goal

pub returns-then-n-eq0-clause-geometry : goal.returns-then-n-eq0-clause-geometry
returns-then-n-eq0-clause-geometry c = no_geom c.args.mv.now c.args.l.now (sym c.events-n.ensures.events ∙ c.if-n-eq0.true)

pub returns-clause-geometry : goal.returns-clause-geometry
returns-clause-geometry c = sym (geom_of_is c.args.mv.now c.args.l.now _ (search rules))
