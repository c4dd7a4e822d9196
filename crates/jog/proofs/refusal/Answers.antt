use Rattle.jog.proofs.Causes.{stays_near}
use Rattle.jog.proofs.refusal.Goals as goal

pub returns-clause-near : goal.returns-clause-near
returns-clause-near c = stays_near c.args.s.now c.args.line.now c.args.at.now c.first_error.result c.first_error.ensures
