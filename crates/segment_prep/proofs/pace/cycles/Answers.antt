use Rattle.std.proofs.Common.{◌*◌, arith}
use Rattle.plan_rules.proofs.Bounds.{bounds_of}
use Rattle.segment_prep.proofs.Sizes.{product_small, product_some, some_rounded_up}
use Rattle.segment_prep.proofs.pace.cycles.Goals as goal

pub overflow_mul-per_length : goal.overflow_mul-per_length
overflow_mul-per_length c =
    let small = product_small c.pace.result c.args.b.now c.requires.block c.pace.ensures.rapid in
    omega (arith, small)

pub overflow_mul-result : goal.overflow_mul-result
overflow_mul-result c =
    let bounds = bounds_of c.args.b.now c.requires.block in
    let n_high = bounds.n_high in
    let length_high = bounds.length_high in
    omega (arith, n_high, length_high)

pub overflow_add-result : goal.overflow_add-result
overflow_add-result c =
    let bounds = bounds_of c.args.b.now c.requires.block in
    let n_high = bounds.n_high in
    let length_high = bounds.length_high in
    let small = product_small c.pace.result c.args.b.now c.requires.block c.pace.ensures.rapid in
    omega (arith, n_high, length_high, small)

pub overflow_sub-result : goal.overflow_sub-result
overflow_sub-result c =
    let some = product_some c.pace.result c.args.b.now c.requires.block c.pace.ensures.some in
    omega (arith, some)

pub nonzero_div-result : goal.nonzero_div-result
nonzero_div-result c = product_some c.pace.result c.args.b.now c.requires.block c.pace.ensures.some

pub returns-clause-some : goal.returns-clause-some
returns-clause-some c =
    let b = c.args.b.now in
    let low = (bounds_of b c.requires.block).length_low in
    let some = product_some c.pace.result b c.requires.block c.pace.ensures.some in
    some_rounded_up (16000 * b.geom.length) (b.geom.n * c.pace.result) (omega (arith, low)) some
