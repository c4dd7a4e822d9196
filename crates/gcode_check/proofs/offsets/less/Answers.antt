use Rattle.gcode_check.proofs.Casts.{as_long, rest_is, less_is}
use Rattle.gcode_check.proofs.offsets.less.Goals as goal

pub rest_of-requires : goal.rest_of-requires
rest_of-requires c = record { from = as_long c.args.from.now.x c.requires.from.x; named = c.requires.named.x }

pub rest_of-requires-2 : goal.rest_of-requires-2
rest_of-requires-2 c = record { from = as_long c.args.from.now.y c.requires.from.y; named = c.requires.named.y }

pub rest_of-requires-3 : goal.rest_of-requires-3
rest_of-requires-3 c = record { from = as_long c.args.from.now.z c.requires.from.z; named = c.requires.named.z }

pub returns : goal.returns
returns c =
    let from = c.args.from.now in
    let named = c.args.named.now in
    less_is from named _ _ _ (rest_is from.x named.x _ c.requires.from.x c.rest_of.ensures) (rest_is from.y named.y _ c.requires.from.y c.rest_of-2.ensures)
    (rest_is from.z named.z _ c.requires.from.z c.rest_of-3.ensures)
