use Rattle.part_making.specs.Judging.{rest_of}
use Rattle.part_making.proofs.Going.{no_rest, not_true}
use Rattle.part_making.proofs.judge.PartJudge.take_head.Goals as goal

pub begin_move-requires-clause-done : goal.begin_move-requires-clause-done
begin_move-requires-clause-done c = no_rest (rest_of c.args.self.now.latest) (λ some. not_true c.has_rest.result c.if-has_rest.false (c.has_rest.ensures.1 some))
