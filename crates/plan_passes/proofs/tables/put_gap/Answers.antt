use Rattle.std.proofs.Common.{◌-◌, length, take, ap, arith, ◌∙◌}
use Rattle.plan_rules.specs.Blocks.{gap_of}
use Rattle.plan_passes.proofs.Filling.{standing, number_last}
use Rattle.plan_passes.proofs.tables.put_gap.Goals as goal

pub gap-requires : goal.gap-requires
gap-requires g c =
    standing c.args.ring.now (c.len-count.result - 1) c.block_at.result.now (omega (arith, c.len-count.ensures.len, c.requires.some))
    c.block_at.ensures c.requires.blocks

pub returns : goal.returns
returns g c =
    ap (take (length c.args.ring.now)) c.put.ensures.put
    ∙ number_last gap_of c.args.ring.now c.args.gaps.now c.len-count.result c.gap.result c.block_at.result.now c.len-count.ensures.len c.requires.some
    (omega (arith, c.len-count.ensures.few, c.len-count.ensures.len, c.put.ensures.places)) c.block_at.ensures c.gap.ensures.gap c.requires.before
