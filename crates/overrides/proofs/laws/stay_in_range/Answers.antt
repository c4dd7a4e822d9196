use Rattle.overrides.proofs.Ranges.{all_taken_within}
use Rattle.overrides.proofs.laws.stay_in_range.Goals as goal

pub returns : goal.returns
returns c = all_taken_within
