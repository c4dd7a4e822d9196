use Rattle.std.proofs.Common.{arith}
use Rattle.plan_rules.proofs.Bounds.{bounds_of, rapid_small}
use Rattle.segment_prep.proofs.Sizes.{some_rounded_up}
use Rattle.segment_prep.proofs.rule.holding.Goals as goal

pub overflow_add-stop : goal.overflow_add-stop
overflow_add-stop c =
    let bounds = bounds_of c.args.b.now c.requires.block in
    let small = rapid_small c.args.b.now c.requires.block in
    omega (arith, c.requires.speed, small, bounds.q_high)

pub nonzero_div-stop : goal.nonzero_div-stop
nonzero_div-stop c =
    let q_low = (bounds_of c.args.b.now c.requires.block).q_low in
    omega (arith, q_low)

pub returns-clause-some : goal.returns-clause-some
returns-clause-some c =
    let b = c.args.b.now in
    let q_low = (bounds_of b c.requires.block).q_low in
    let stop = some_rounded_up c.args.w b.geom.q c.requires.moves (omega (arith, q_low)) in
    omega (arith, c.min-n.ensures, c.count.ensures.some, stop)
