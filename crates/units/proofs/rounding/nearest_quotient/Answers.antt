use Rattle.units.proofs.Nearest.{nearest, only}
use Rattle.units.proofs.rounding.nearest_quotient.Goals as goal

pub returns-clause-nearest : goal.returns-clause-nearest
returns-clause-nearest c = nearest

pub returns-clause-only : goal.returns-clause-only
returns-clause-only c = only
