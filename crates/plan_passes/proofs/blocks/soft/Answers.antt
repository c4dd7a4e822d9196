use Rattle.std.proofs.Common.{arith}
use Rattle.plan_passes.proofs.Nominals.{square_small}
use Rattle.plan_passes.proofs.blocks.soft.Goals as goal

pub overflow_mul-first : goal.overflow_mul-first
overflow_mul-first c = omega (arith, square_small c.args.first c.requires.first)

pub overflow_mul-second : goal.overflow_mul-second
overflow_mul-second c = omega (arith, square_small c.args.second c.requires.second)
