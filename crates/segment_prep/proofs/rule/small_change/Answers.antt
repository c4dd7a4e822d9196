use Rattle.std.proofs.Common.{arith}
use Rattle.segment_prep.proofs.Sizes.{change_small}
use Rattle.segment_prep.proofs.rule.small_change.Goals as goal

pub overflow_mul-small : goal.overflow_mul-small
overflow_mul-small c = omega (arith, change_small c.args.w c.args.n c.args.b.now c.requires.block c.requires.speed c.requires.few)

pub returns-clause-small : goal.returns-clause-small
returns-clause-small c = change_small c.args.w c.args.n c.args.b.now c.requires.block c.requires.speed c.requires.few
