use Rattle.std.proofs.Common.{◌≡◌, ◌+◌, ◌-◌, length, get_or, take, get_or-take, refl, arith, ap, sym, ◌∙◌}
use Rattle.plan_rules.specs.Blocks.{soft_of, softs_of}
use Rattle.plan_rules.proofs.Junctions.{length-joints}
use Rattle.plan_rules.specs.Blocks.{nominal_speed}
use Rattle.plan_passes.proofs.Filling.{standing, filled_more, number_at, number_filled, number_all, number_none, joint_none, joint_all}
use Rattle.plan_passes.proofs.Nominals.{soft_next}
use Rattle.plan_passes.proofs.tables.fill_softs.Goals as goal

pub returns-then-count-eq0 : goal.returns-then-count-eq0
returns-then-count-eq0 g c =
    let none : length c.args.ring.now ≡ 0 = omega (arith, c.len-count.ensures.len) in
    record {
      nominals = number_none (nominal_speed c.args.o.now) c.args.ring.now c.args.nominals.now none;
      softs = joint_none (soft_of c.args.o.now) c.args.ring.now c.args.softs.now (omega (arith, none));
    }

pub nominal-first-requires-clause-block : goal.nominal-first-requires-clause-block
nominal-first-requires-clause-block g c =
    standing c.args.ring.now 0 c.block_at.result.now (omega (arith, c.len-count.ensures.len)) c.block_at.ensures c.requires.blocks

pub nominal-second-requires-clause-block : goal.nominal-second-requires-clause-block
nominal-second-requires-clause-block g c =
    standing c.args.ring.now (c.loop-i.i + 1) c.block_at-behind.result.now (omega (arith, c.len-count.ensures.len))
    c.block_at-behind.ensures c.requires.blocks

pub loop-i-init : goal.loop-i-init
loop-i-init g c =
    let bs = c.args.ring.now in
    let b = c.block_at.result.now in
    let len = c.len-count.ensures.len in
    let speed = nominal_speed c.args.o.now in
    record {
      nominals = ap (take 1) c.put.ensures.put
          ∙ number_filled speed bs c.args.nominals.now 0 c.nominal-first.result b (omega (arith, len))
          (omega (arith, len, c.len-count.ensures.few, c.put.ensures.places)) c.block_at.ensures c.nominal-first.ensures.nominal refl;
      softs = refl;
      first = c.nominal-first.ensures.nominal ∙ number_at speed bs 0 b (omega (arith, len)) c.block_at.ensures;
      small = c.nominal-first.ensures.small;
    }

pub loop-i-preserved : goal.loop-i-preserved
loop-i-preserved g c =
    let bs = c.args.ring.now in
    let i = c.loop-i.i in
    let len = c.len-count.ensures.len in
    let behind = c.block_at-behind.result.now in
    let speed = nominal_speed c.args.o.now in
    let held = c.at.ensures 0 ∙ sym (get_or-take (length bs - 1) c.args.hards.now i 0 (omega (arith, len))) ∙ ap (λ l. get_or l i 0) c.requires.hards in
    let second = c.nominal-second.ensures.nominal ∙ number_at speed bs (i + 1) behind (omega (arith, len)) c.block_at-behind.ensures in
    let soft = soft_next c.args.o.now bs i behind c.at.result c.loop-i.first c.nominal-second.result c.soft.result
    (omega (arith, len)) held c.loop-i.invariant.first second c.soft.ensures in
    let joints = length-joints (soft_of c.args.o.now) bs in
    record {
      nominals = ap (take (i + 1 + 1)) c.put-in-loop-i-2.ensures.put
          ∙ number_filled speed bs c.loop-i.nominals (i + 1) c.nominal-second.result behind (omega (arith, len))
          (omega (arith, len, c.len-count.ensures.few, c.put-in-loop-i-2.ensures.places)) c.block_at-behind.ensures c.nominal-second.ensures.nominal
          c.loop-i.invariant.nominals;
      softs = ap (take (i + 1)) c.put-in-loop-i.ensures.put
          ∙ filled_more c.loop-i.softs (softs_of c.args.o.now bs) i c.soft.result
          (omega (arith, len, joints)) (omega (arith, len, c.len-count.ensures.few, c.put-in-loop-i.ensures.places)) soft c.loop-i.invariant.softs;
      first = second;
      small = c.nominal-second.ensures.small;
    }

pub returns : goal.returns
returns g c =
    let len = c.len-count.ensures.len in
    record {
      nominals = number_all (nominal_speed c.args.o.now) c.args.ring.now c.loop-i.nominals (c.loop-i.i + 1) (omega (arith, len)) c.loop-i.invariant.nominals;
      softs = joint_all (soft_of c.args.o.now) c.args.ring.now c.loop-i.softs c.loop-i.i (omega (arith, len)) c.loop-i.invariant.softs;
    }
