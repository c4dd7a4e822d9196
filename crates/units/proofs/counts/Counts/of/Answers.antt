use Rattle.units.proofs.Kept.{coordinate, apart}
use Rattle.units.proofs.counts.Counts.of.Goals as goal

pub axis_count-requires-clause-from : goal.axis_count-requires-clause-from
axis_count-requires-clause-from c = coordinate c.args.mv.now.from.x c.requires.from.x

pub axis_count-requires-clause-to : goal.axis_count-requires-clause-to
axis_count-requires-clause-to c = coordinate c.args.mv.now.to.x c.requires.to.x

pub axis_count-requires-2-clause-from : goal.axis_count-requires-2-clause-from
axis_count-requires-2-clause-from c = coordinate c.args.mv.now.from.y c.requires.from.y

pub axis_count-requires-2-clause-to : goal.axis_count-requires-2-clause-to
axis_count-requires-2-clause-to c = coordinate c.args.mv.now.to.y c.requires.to.y

pub axis_count-requires-3-clause-from : goal.axis_count-requires-3-clause-from
axis_count-requires-3-clause-from c = coordinate c.args.mv.now.from.z c.requires.from.z

pub axis_count-requires-3-clause-to : goal.axis_count-requires-3-clause-to
axis_count-requires-3-clause-to c = coordinate c.args.mv.now.to.z c.requires.to.z

pub returns-clause-x : goal.returns-clause-x
returns-clause-x c = apart _ c.args.mv.now.to.x c.args.mv.now.from.x c.requires.to.x c.requires.from.x c.axis_count.ensures.count

pub returns-clause-y : goal.returns-clause-y
returns-clause-y c = apart _ c.args.mv.now.to.y c.args.mv.now.from.y c.requires.to.y c.requires.from.y c.axis_count-2.ensures.count

pub returns-clause-z : goal.returns-clause-z
returns-clause-z c = apart _ c.args.mv.now.to.z c.args.mv.now.from.z c.requires.to.z c.requires.from.z c.axis_count-3.ensures.count

pub returns-clause-few : goal.returns-clause-few
returns-clause-few c = (c.axis_count.ensures.few, c.axis_count-2.ensures.few, c.axis_count-3.ensures.few)
