use Rattle.reset_work.proofs.Taped.{answers}
use Rattle.reset_work.proofs.tests.TapeBoardPort.answer.Goals as goal

pub returns-clause-ok : goal.returns-clause-ok
returns-clause-ok c rest l t may = answers _ _ _ _ l c.args._r t
