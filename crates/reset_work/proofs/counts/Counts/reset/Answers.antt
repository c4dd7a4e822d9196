use Rattle.std.proofs.Common.{arith}
use Rattle.board_epochs.specs.Epochs.{closed_log, log_behind}
use Rattle.reset_work.proofs.Counted.{taken_fits, begins}
use Rattle.reset_work.proofs.counts.Counts.reset.Goals as goal

pub overflow_add-self : goal.overflow_add-self
overflow_add-self c = let r = c.requires in let few = taken_fits c.args.self.now c.args.taken r.0 r.1 r.2 r.3 r.4 r.5 r.6 in omega (arith, few)

pub returns-clause-begins : goal.returns-clause-begins
returns-clause-begins c = λ blocks state es h epochs may counted line taken.
    begins c.args.self.now c.begin.result c.args.line c.args.taken blocks state es h epochs may counted line taken (λ mark bytes. c.begin.ensures.begins (log_behind (closed_log es) h) mark bytes)
