use Rattle.std.proofs.Common.{◌≤◌, arith, subst, sym}
use Rattle.plan_rules.proofs.Bounds.{bounds_of}
use Rattle.plan_passes.proofs.Nominals.{nominal_small}
use Rattle.plan_passes.proofs.blocks.nominal.Goals as goal

pub nominal-requires-clause-rate : goal.nominal-requires-clause-rate
nominal-requires-clause-rate c = c.requires.block.rate

pub nominal-requires-clause-rapid : goal.nominal-requires-clause-rapid
nominal-requires-clause-rapid c =
    let high = (bounds_of c.args.b.now c.requires.block).rapid_high in
    omega (arith, high)

pub returns-clause-nominal : goal.returns-clause-nominal
returns-clause-nominal c = c.nominal.ensures.nominal

pub returns-clause-small : goal.returns-clause-small
returns-clause-small c =
    subst (λ v. v ≤ 33333333) (sym c.nominal.ensures.nominal) (nominal_small c.args.o.now c.args.b.now c.requires.overrides c.requires.block)
