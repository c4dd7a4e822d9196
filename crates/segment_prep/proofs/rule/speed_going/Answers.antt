use Rattle.std.proofs.Common.{rules}
use Rattle.segment_prep.proofs.Sizes.{nominal_fits, changed_fits, speed_is}
use Rattle.segment_prep.proofs.rule.speed_going.Goals as goal

pub overflow_mul-nominal : goal.overflow_mul-nominal
overflow_mul-nominal c = search (rules, nominal_fits c.args.b.now c.args.nominal c.requires.block c.requires.nominal)

pub speed_towards-towards-requires : goal.speed_towards-towards-requires
speed_towards-towards-requires c =
    changed_fits c.args.b.now c.args.w c.small_change.result c.requires.block c.requires.speed c.small_change.ensures.small

pub returns-clause-speed : goal.returns-clause-speed
returns-clause-speed c =
    (speed_is c.args.b.now c.args.w c.args.n c.args.exit c.args.nominal c.small_change.result c.change.result c.saturating_add-for_exit.result
    c.speed_towards-towards.result c.min.result c.requires.block c.requires.speed c.requires.nominal c.change.ensures
    c.saturating_add-for_exit.ensures c.small_change.ensures.change c.speed_towards-towards.ensures c.min.ensures).0

pub returns-clause-rapid : goal.returns-clause-rapid
returns-clause-rapid c =
    (speed_is c.args.b.now c.args.w c.args.n c.args.exit c.args.nominal c.small_change.result c.change.result c.saturating_add-for_exit.result
    c.speed_towards-towards.result c.min.result c.requires.block c.requires.speed c.requires.nominal c.change.ensures
    c.saturating_add-for_exit.ensures c.small_change.ensures.change c.speed_towards-towards.ensures c.min.ensures).1
