use Rattle.std.proofs.Common.{◌+◌, ◌*◌, arith}
use Rattle.std.proofs.lemmas.Nat.{mul-le}
use Rattle.plan_rules.proofs.Bounds.{bounds_of, rapid_small}
use Rattle.segment_prep.proofs.Sizes.{root_under, one_left, one_taken, some_taken, count_within}
use Rattle.segment_prep.proofs.rule.count.Goals as goal

pub returns-then-left-eq1-clause-count : goal.returns-then-left-eq1-clause-count
returns-then-left-eq1-clause-count c = one_left c.args.b.now c.args.w c.if-left-eq1.true

pub overflow_add-w : goal.overflow_add-w
overflow_add-w c =
    let b = c.args.b.now in
    omega (arith, c.requires.speed, rapid_small b c.requires.block, (bounds_of b c.requires.block).q_high)

pub small_root-root-requires : goal.small_root-root-requires
small_root-root-requires c =
    let b = c.args.b.now in
    omega (arith, c.requires.speed, rapid_small b c.requires.block, (bounds_of b c.requires.block).q_high)

pub overflow_mul-way : goal.overflow_mul-way
overflow_mul-way c =
    let b = c.args.b.now in
    let root = c.small_root-root.result in
    let slow = root_under (c.args.w + b.geom.q) root 33453119 c.small_root-root.ensures
    (omega (arith, c.requires.speed, rapid_small b c.requires.block, (bounds_of b c.requires.block).q_high)) in
    omega (arith, slow)

pub overflow_mul-way-2 : goal.overflow_mul-way-2
overflow_mul-way-2 c =
    let b = c.args.b.now in
    let bounds = bounds_of b c.requires.block in
    let q_high = bounds.q_high in
    let n_high = bounds.n_high in
    let rapid = rapid_small b c.requires.block in
    let root = c.small_root-root.result in
    let slow = root_under (c.args.w + b.geom.q) root 33453119 c.small_root-root.ensures (omega (arith, c.requires.speed, rapid, q_high)) in
    let product = mul-le (root * 10) b.geom.n 334531190 200000000 (omega (arith, slow)) n_high in
    omega (arith, product)

pub overflow_mul-b : goal.overflow_mul-b
overflow_mul-b c = omega (arith, (bounds_of c.args.b.now c.requires.block).length_high)

pub returns-then-way-b-clause-count : goal.returns-then-way-b-clause-count
returns-then-way-b-clause-count c =
    one_taken c.args.b.now c.args.w c.small_root-root.result c.requires.block c.small_root-root.ensures c.if-way-b.true

pub nonzero_div-way : goal.nonzero_div-way
nonzero_div-way c = let low = (bounds_of c.args.b.now c.requires.block).length_low in omega (arith, low)

pub overflow_cast-result : goal.overflow_cast-result
overflow_cast-result c = omega (arith, (bounds_of c.args.b.now c.requires.block).n_high, c.min.ensures)

pub returns-clause-count : goal.returns-clause-count
returns-clause-count c =
    some_taken c.args.b.now c.args.w c.small_root-root.result c.min.result c.requires.block c.small_root-root.ensures c.if-way-b.false c.min.ensures

pub returns-clause-some : goal.returns-clause-some
returns-clause-some c =
    let b = c.args.b.now in
    let is = some_taken b c.args.w c.small_root-root.result c.min.result c.requires.block c.small_root-root.ensures c.if-way-b.false c.min.ensures in
    omega (arith, is, (count_within b c.args.w c.requires.block).0)
