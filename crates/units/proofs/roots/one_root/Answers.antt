use Rattle.units.proofs.Places.{root_is, one_root}
use Rattle.units.proofs.roots.one_root.Goals as goal

pub returns-clause-some : goal.returns-clause-some
returns-clause-some c = root_is

pub returns-clause-only : goal.returns-clause-only
returns-clause-only c = one_root
