use Rattle.reset_work.proofs.Taped.{publishes}
use Rattle.reset_work.proofs.tests.TapeBoardPort.publish.Goals as goal

pub returns-clause-ok : goal.returns-clause-ok
returns-clause-ok c rest l t may = let s = c.args.self.now in publishes 3 s.left s.ticks s.done c.tick_count.result l c.args.p c.tick_count.ensures t
