use Rattle.std.proofs.Common.{sym}
use Rattle.line_geom.proofs.Geometries.{geometry_is}
use Rattle.legal_heads.proofs.judging.Measured.of.Goals as goal

pub invariant_of-result : goal.invariant_of-result
invariant_of-result c = record {
  move = c.requires;
  same = sym (geometry_is _ _ _ c.in-Some.ensures.fields);
  fields = c.in-Some.ensures.fields;
  bounds = c.in-Some.ensures.bounds;
}
