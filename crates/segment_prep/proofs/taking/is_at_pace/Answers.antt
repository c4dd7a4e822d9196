use Rattle.std.proofs.Common.{arith}
use Rattle.plan_rules.proofs.Bounds.{rapid_small}
use Rattle.segment_prep.proofs.Sizes.{square_le}
use Rattle.segment_prep.proofs.taking.is_at_pace.Goals as goal

pub overflow_mul-top : goal.overflow_mul-top
overflow_mul-top c =
    let b = c.args.b.now in
    omega (arith, square_le c.args.nominal b c.requires.block c.requires.nominal, rapid_small b c.requires.block)
