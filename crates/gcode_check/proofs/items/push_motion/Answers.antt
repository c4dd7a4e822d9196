use Rattle.std.proofs.Common.{◌++◌, ap, ◌∙◌}
use Rattle.gcode_check.specs.Items.{moves_through}
use Rattle.gcode_check.proofs.items.push_motion.Goals as goal

pub rate_of-requires : goal.rate_of-requires
rate_of-requires c = record { valid = c.requires.valid; motion = c.requires.motion }

pub push_moves-requires : goal.push_moves-requires
push_moves-requires c = record { room = c.requires.room; sound = c.requires.sound; rate = c.rate_of.ensures.sound; here = c.requires.valid.pos_steps; near = c.requires.near }

pub returns-clause-items : goal.returns-clause-items
returns-clause-items c =
    c.push_moves.ensures.items ∙ ap (λ rate. c.args.items.now.items ++ moves_through c.args.p.now.pos_steps c.args.stops.now rate) c.rate_of.ensures.rate

pub returns-clause-count : goal.returns-clause-count
returns-clause-count c = c.push_moves.ensures.count

pub returns-clause-sound : goal.returns-clause-sound
returns-clause-sound c = c.push_moves.ensures.sound
