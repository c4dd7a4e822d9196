use Rattle.step_line.proofs.Sums.{at_start, at_end, by_sums, is_place}
use Rattle.step_line.proofs.laws.places_are_sums.Goals as goal

pub returns-clause-start : goal.returns-clause-start
returns-clause-start c = at_start

pub returns-clause-end : goal.returns-clause-end
returns-clause-end c = at_end

pub returns-clause-sums : goal.returns-clause-sums
returns-clause-sums c = by_sums

pub returns-clause-within : goal.returns-clause-within
returns-clause-within c = is_place
