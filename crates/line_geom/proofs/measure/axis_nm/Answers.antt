use Rattle.line_geom.proofs.Lines.{axis_low, axis_high}
use Rattle.line_geom.proofs.measure.axis_nm.Goals as goal

pub returns-clause-low : goal.returns-clause-low
returns-clause-low c = axis_low c.args.count c.args.per_mm c.requires.scale.0 c.requires.scale.1

pub returns-clause-high : goal.returns-clause-high
returns-clause-high c = axis_high c.args.count c.args.per_mm c.requires.scale.0
