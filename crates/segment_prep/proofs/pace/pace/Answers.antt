use Rattle.std.proofs.Common.{◌≡◌, ◌+◌, ◌*◌, ◌/◌, min, max, arith, rules, ap, subst}
use Rattle.units.specs.Roots.{root_of}
use Rattle.units.proofs.Places.{one_root}
use Rattle.plan_rules.specs.Blocks.{squared}
use Rattle.plan_rules.proofs.Bounds.{bounds_of, rapid_small}
use Rattle.segment_prep.proofs.Sizes.{root_below, root_square, root_under, square_le, top_below}
use Rattle.segment_prep.proofs.pace.pace.Goals as goal

pub returns-clause-rapid : goal.returns-clause-rapid
returns-clause-rapid c =
    let b = c.args.b.now in
    let root = root_under _ c.small_root.result c.top-top.result c.small_root.ensures (omega arith) in
    let begins = root_below c.args.w b.geom.rapid c.requires.begins in
    let low = (bounds_of b c.requires.block).rapid_low in
    omega (arith, root, begins, low)

pub returns-clause-pace : goal.returns-clause-pace
returns-clause-pace c =
    let b = c.args.b.now in
    let top = c.top-top.result in
    let change = c.small_change.result in
    let mean = (c.args.w + c.args.v + change) / 2 in
    let least : mean ≡ min (top * top) mean = omega (arith, c.if-top-mean.false) in
    let squares = subst (λ t. mean ≡ min (t * t) mean) c.top-top.ensures.top least in
    let whole = subst (λ d. mean ≡ min (squared (max c.args.nominal (root_of c.args.w))) ((c.args.w + c.args.v + d) / 2)) c.small_change.ensures.change squares in
    let root = one_root mean c.small_root.result c.small_root.ensures in
    omega (arith, root, ap root_of whole, c.max-2.ensures)

pub top-top-requires-clause-nominal : goal.top-top-requires-clause-nominal
top-top-requires-clause-nominal c =
    let high = (bounds_of c.args.b.now c.requires.block).rapid_high in
    omega (arith, high, c.requires.nominal)

pub top-top-requires-clause-speed : goal.top-top-requires-clause-speed
top-top-requires-clause-speed c =
    let rapid = rapid_small c.args.b.now c.requires.block in
    omega (arith, rapid, c.requires.begins)

pub overflow_add-mean : goal.overflow_add-mean
overflow_add-mean c =
    let rapid = rapid_small c.args.b.now c.requires.block in
    omega (arith, rapid, c.requires.begins, c.requires.ends)

pub overflow_add-mean-2 : goal.overflow_add-mean-2
overflow_add-mean-2 c =
    let rapid = rapid_small c.args.b.now c.requires.block in
    omega (arith, rapid, c.requires.begins, c.requires.ends, c.small_change.ensures.small)

pub overflow_mul-top : goal.overflow_mul-top
overflow_mul-top c =
    let b = c.args.b.now in
    let top = top_below c.args.nominal c.args.w b.geom.rapid c.requires.nominal c.requires.begins c.top-top.result c.top-top.ensures.top in
    let square = square_le c.top-top.result b c.requires.block top in
    let rapid = rapid_small b c.requires.block in
    omega (arith, square, rapid)

pub returns-then-top-mean-clause-pace : goal.returns-then-top-mean-clause-pace
returns-then-top-mean-clause-pace c =
    let top = c.top-top.result in
    let mean = (c.args.w + c.args.v + c.small_change.result) / 2 in
    let least : top * top ≡ min (top * top) mean = omega (arith, c.if-top-mean.true) in
    let squares = subst (λ t. top * top ≡ min (t * t) mean) c.top-top.ensures.top least in
    let whole = subst (λ d. top * top ≡ min (squared (max c.args.nominal (root_of c.args.w))) ((c.args.w + c.args.v + d) / 2)) c.small_change.ensures.change squares in
    omega (arith, root_square top, ap root_of whole, c.max.ensures)

pub returns-then-top-mean-clause-some : goal.returns-then-top-mean-clause-some
returns-then-top-mean-clause-some c = search rules

pub returns-then-top-mean-clause-rapid : goal.returns-then-top-mean-clause-rapid
returns-then-top-mean-clause-rapid c =
    let b = c.args.b.now in
    let top = top_below c.args.nominal c.args.w b.geom.rapid c.requires.nominal c.requires.begins c.top-top.result c.top-top.ensures.top in
    let low = (bounds_of b c.requires.block).rapid_low in
    omega (arith, top, low, c.max.ensures)

pub small_root-requires : goal.small_root-requires
small_root-requires c =
    let rapid = rapid_small c.args.b.now c.requires.block in
    omega (arith, rapid, c.requires.begins, c.requires.ends, c.small_change.ensures.small)

pub returns-clause-some : goal.returns-clause-some
returns-clause-some c = search rules
