use Rattle.smooth_step.proofs.Parts.{paired, four_at_most}
use Rattle.smooth_step.proofs.smooth.pairs_at.Goals as goal

pub returns-clause-count : goal.returns-clause-count
returns-clause-count c = paired c.args.level c.requires.some c.requires.level

pub returns-clause-few : goal.returns-clause-few
returns-clause-few c = four_at_most c.args.level c.requires.level
