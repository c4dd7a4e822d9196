use Rattle.line_interpreter.proofs.Ways.{goes_on, stays}
use Rattle.line_interpreter.proofs.tasks.goes.Goals as goal

pub returns-clause-yes : goal.returns-clause-yes
returns-clause-yes c = goes_on c.args.mv.now c.ne.result c.ne.ensures

pub returns-clause-no : goal.returns-clause-no
returns-clause-no c = stays c.args.mv.now c.ne.result c.ne.ensures
