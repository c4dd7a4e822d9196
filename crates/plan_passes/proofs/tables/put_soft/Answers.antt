use Rattle.std.proofs.Common.{◌≡◌, ◌+◌, ◌-◌, length, get_or, take, arith, ap, ◌∙◌}
use Rattle.line_geom.specs.declared.Block.{Block}
use Rattle.plan_rules.specs.Blocks.{hard_of, soft_of}
use Rattle.plan_rules.specs.Blocks.{nominal_speed}
use Rattle.plan_passes.proofs.Filling.{standing, number_last, joint_none, joint_last}
use Rattle.plan_passes.proofs.Nominals.{nominal_at, nominal_small, soft_is}
use Rattle.plan_passes.proofs.tables.put_soft.Goals as goal

pub nominal-second-requires-clause-block : goal.nominal-second-requires-clause-block
nominal-second-requires-clause-block g c =
    standing c.args.ring.now (c.len-count.result - 1) c.block_at-last.result.now (omega (arith, c.len-count.ensures.len, c.requires.some))
    c.block_at-last.ensures c.requires.blocks

pub hard-cap-requires-clause-first : goal.hard-cap-requires-clause-first
hard-cap-requires-clause-first g c =
    standing c.args.ring.now (c.len-count.result - 2) c.block_at-before.result.now (omega (arith, c.len-count.ensures.len))
    c.block_at-before.ensures c.requires.blocks

pub hard-cap-requires-clause-second : goal.hard-cap-requires-clause-second
hard-cap-requires-clause-second g c =
    standing c.args.ring.now (c.len-count.result - 1) c.block_at-last.result.now (omega (arith, c.len-count.ensures.len))
    c.block_at-last.ensures c.requires.blocks

pub soft-requires-clause-first : goal.soft-requires-clause-first
soft-requires-clause-first g c =
    let bs = c.args.ring.now in
    let i = c.len-count.result - 2 in
    let len = c.len-count.ensures.len in
    let before = c.block_at-before.result.now in
    let row = ap (take (length bs)) c.put.ensures.put
    ∙ number_last (nominal_speed c.args.o.now) bs c.args.nominals.now c.len-count.result c.nominal-second.result c.block_at-last.result.now len c.requires.some
    (omega (arith, c.len-count.ensures.few, len, c.put.ensures.places)) c.block_at-last.ensures c.nominal-second.ensures.nominal c.requires.nominals in
    let first = c.at-first.ensures 0
    ∙ nominal_at c.args.o.now bs c.put.new.self i before (omega (arith, len)) c.block_at-before.ensures row in
    let small = nominal_small c.args.o.now before c.requires.overrides
    (standing bs i before (omega (arith, len)) c.block_at-before.ensures c.requires.blocks) in
    omega (arith, first, small)

pub returns-then-count-lt2 : goal.returns-then-count-lt2
returns-then-count-lt2 g c =
    let bs = c.args.ring.now in
    let len = c.len-count.ensures.len in
    record {
      nominals = ap (take (length bs)) c.put.ensures.put
          ∙ number_last (nominal_speed c.args.o.now) bs c.args.nominals.now c.len-count.result c.nominal-second.result c.block_at-last.result.now len c.requires.some
          (omega (arith, c.len-count.ensures.few, len, c.put.ensures.places)) c.block_at-last.ensures c.nominal-second.ensures.nominal c.requires.nominals;
      hards = joint_none hard_of bs c.args.hards.now (omega (arith, len));
      softs = joint_none (soft_of c.args.o.now) bs c.args.softs.now (omega (arith, len));
    }

pub returns : goal.returns
returns g c =
    let bs = c.args.ring.now in
    let i = c.len-count.result - 2 in
    let len = c.len-count.ensures.len in
    let few = c.len-count.ensures.few in
    let before = c.block_at-before.result.now in
    let last = c.block_at-last.result.now in
    let next : c.len-count.result - 1 ≡ i + 1 = omega arith in
    let behind : (d : Block) → last ≡ get_or bs (i + 1) d = λ d. c.block_at-last.ensures d ∙ ap (λ k. get_or bs k d) next in
    let row = ap (take (length bs)) c.put.ensures.put
    ∙ number_last (nominal_speed c.args.o.now) bs c.args.nominals.now c.len-count.result c.nominal-second.result last len c.requires.some
    (omega (arith, few, len, c.put.ensures.places)) c.block_at-last.ensures c.nominal-second.ensures.nominal c.requires.nominals in
    let first = c.at-first.ensures 0
    ∙ nominal_at c.args.o.now bs c.put.new.self i before (omega (arith, len)) c.block_at-before.ensures row in
    let soft = soft_is c.args.o.now before last c.hard-cap.result c.at-first.result c.nominal-second.result c.soft.result
    c.hard-cap.ensures first c.nominal-second.ensures.nominal c.soft.ensures in
    record {
      nominals = row;
      hards = ap (take (length bs - 1)) c.put-2.ensures.put
          ∙ joint_last hard_of bs c.args.hards.now i c.hard-cap.result before last (omega (arith, len)) (omega (arith, len, few, c.put-2.ensures.places))
          c.block_at-before.ensures behind c.hard-cap.ensures c.requires.hards;
      softs = ap (take (length bs - 1)) c.put-3.ensures.put
          ∙ joint_last (soft_of c.args.o.now) bs c.args.softs.now i c.soft.result before last (omega (arith, len)) (omega (arith, len, few, c.put-3.ensures.places))
          c.block_at-before.ensures behind soft c.requires.softs;
    }
