use Rattle.std.proofs.Common.{drop, arith}
use Rattle.plan_rules.proofs.Bounds.{prepared_small}
use Rattle.plan_passes.proofs.Moved.{marked_gone, marked_left, marked_gap, marked_small}
use Rattle.plan_passes.proofs.plan.prepare.Goals as goal

pub overflow_add-tail : goal.overflow_add-tail
overflow_add-tail g c =
    let b = c.in-Some.tail.now in
    let rest = drop 1 c.args.ring.now in
    let stands = c.in-Some.ensures.some in
    let small = prepared_small b rest c.args.ring.now c.args.n stands c.requires.blocks (c.requires.left b rest stands) in
    omega (arith, small.0)

pub overflow_sub-left : goal.overflow_sub-left
overflow_sub-left g c =
    let b = c.in-Some.tail.now in
    let rest = drop 1 c.args.ring.now in
    let stands = c.in-Some.ensures.some in
    let small = prepared_small b rest c.args.ring.now c.args.n stands c.requires.blocks (c.requires.left b rest stands) in
    small.1

pub returns-then-left-eq0-clause-moved : goal.returns-then-left-eq0-clause-moved
returns-then-left-eq0-clause-moved g c =
    let b = c.in-Some.tail.now in
    let rest = drop 1 c.args.ring.now in
    let stands = c.in-Some.ensures.some in
    marked_gone b rest c.args.ring.now c.args.n stands c.drop_tail.new.self (c.requires.left b rest stands) c.if-left-eq0.true c.drop_tail.ensures

pub returns-then-left-eq0-clause-gap : goal.returns-then-left-eq0-clause-gap
returns-then-left-eq0-clause-gap g c =
    let b = c.in-Some.tail.now in
    let rest = drop 1 c.args.ring.now in
    let stands = c.in-Some.ensures.some in
    marked_gap b rest c.args.ring.now c.args.n stands

pub returns-else-left-eq0-clause-moved : goal.returns-else-left-eq0-clause-moved
returns-else-left-eq0-clause-moved g c =
    let b = c.in-Some.tail.now in
    let rest = drop 1 c.args.ring.now in
    let stands = c.in-Some.ensures.some in
    marked_left b rest c.args.ring.now c.args.n stands (c.requires.left b rest stands) c.if-left-eq0.false

pub returns-else-left-eq0-clause-gap : goal.returns-else-left-eq0-clause-gap
returns-else-left-eq0-clause-gap g c =
    let b = c.in-Some.tail.now in
    let rest = drop 1 c.args.ring.now in
    let stands = c.in-Some.ensures.some in
    marked_gap b rest c.args.ring.now c.args.n stands

pub overflow_mul-gap : goal.overflow_mul-gap
overflow_mul-gap g c =
    let b = c.in-Some.tail.now in
    let rest = drop 1 c.args.ring.now in
    let stands = c.in-Some.ensures.some in
    omega (arith, marked_small b rest c.args.ring.now c.args.n stands c.requires.blocks)
