use Rattle.std.proofs.Common.{◌*◌, ◌^◌, ◌<◌, arith, ap, subst, sym}
use Rattle.plan_rules.specs.Blocks.{gap_of}
use Rattle.plan_passes.proofs.Filling.{gap_small}
use Rattle.plan_passes.proofs.blocks.gap.Goals as goal

pub overflow_mul-result : goal.overflow_mul-result
unfolding gap_of
overflow_mul-result c =
    let is = ap (λ n. c.args.b.now.geom.q * n) c.left.ensures in
    let small = gap_small c.args.b.now c.requires in
    omega (arith, is, small)

pub returns-clause-gap : goal.returns-clause-gap
unfolding gap_of
returns-clause-gap c = ap (λ n. c.args.b.now.geom.q * n) c.left.ensures

pub returns-clause-small : goal.returns-clause-small
unfolding gap_of
returns-clause-small c =
    subst (λ n. c.args.b.now.geom.q * n < 2 ^ 71) (sym c.left.ensures) (gap_small c.args.b.now c.requires)
