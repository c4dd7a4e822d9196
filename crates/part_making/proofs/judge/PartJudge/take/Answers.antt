use Rattle.std.proofs.Common.{sym, subst}
use Rattle.step_line.specs.declared.Record.{Record}
use Rattle.part_making.specs.Judging.{Refuses}
use Rattle.part_making.proofs.judge.PartJudge.take.Goals as goal

pub returns-in-Head-clause-no : goal.returns-in-Head-clause-no
returns-in-Head-clause-no c = λ e. subst (λ (r : Record). Refuses c.args.self.now r) (sym c.in-Head.is) (c.take_head.ensures.no e)
