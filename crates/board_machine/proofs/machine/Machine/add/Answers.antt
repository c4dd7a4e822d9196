use Rattle.std.proofs.Common.{refl, sym, arith}
use Rattle.board_machine.proofs.Machining.{put}
use Rattle.board_machine.proofs.machine.Machine.add.Goals as goal

pub add-requires : goal.add-requires
add-requires g c = (
  omega arith,
  (
    c.requires.planned.rate,
    (
      record { places = c.requires.planned.places; limits = c.args.m.now.limits; in_range = c.requires.planned.limits; geom = c.in-Some.ensures.fields },
      (refl, (c.requires.range, λ some. sym c.requires.same)),
    ),
  ),
)

pub returns : goal.returns
returns g c p now hand given r = put c.args.self.now c.args.m.now c.in-Some.geom _ p now hand given c.requires.planned c.requires.room c.in-Some.ensures.fields c.requires.same c.in-Ok.ensures.ok r
