use Rattle.line_geom.proofs.Lines.{least_among, least_below}
use Rattle.line_geom.proofs.laws.least_is_least.Goals as goal

pub returns-clause-among : goal.returns-clause-among
returns-clause-among c = least_among

pub returns-clause-below : goal.returns-clause-below
returns-clause-below c = least_below
