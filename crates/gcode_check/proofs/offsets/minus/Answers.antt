use Rattle.gcode_check.proofs.Casts.{as_far, as_long, difference_is, minus_is}
use Rattle.gcode_check.proofs.offsets.minus.Goals as goal

pub difference-requires : goal.difference-requires
difference-requires c = record { a = as_far c.args.a.now.x c.requires.a.x; b = as_far c.args.b.now.x c.requires.b.x }

pub difference-requires-2 : goal.difference-requires-2
difference-requires-2 c = record { a = as_far c.args.a.now.y c.requires.a.y; b = as_far c.args.b.now.y c.requires.b.y }

pub difference-requires-3 : goal.difference-requires-3
difference-requires-3 c = record { a = as_far c.args.a.now.z c.requires.a.z; b = as_far c.args.b.now.z c.requires.b.z }

pub returns-clause-difference : goal.returns-clause-difference
returns-clause-difference c =
    let a = c.args.a.now in
    let b = c.args.b.now in
    minus_is a b _ _ _
    (difference_is a.x b.x c.difference.result c.requires.a.x c.requires.b.x c.difference.ensures.size c.difference.ensures.difference)
    (difference_is a.y b.y c.difference-2.result c.requires.a.y c.requires.b.y c.difference-2.ensures.size c.difference-2.ensures.difference)
    (difference_is a.z b.z c.difference-3.result c.requires.a.z c.requires.b.z c.difference-3.ensures.size c.difference-3.ensures.difference)

pub returns-clause-size : goal.returns-clause-size
returns-clause-size c = record {
  x = as_long c.difference.result c.difference.ensures.size;
  y = as_long c.difference-2.result c.difference-2.ensures.size;
  z = as_long c.difference-3.result c.difference-3.ensures.size;
}
