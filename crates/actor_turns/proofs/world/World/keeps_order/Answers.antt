use Rattle.std.proofs.Common.{sym}
use Rattle.actor_turns.proofs.Running.{link_is_kept, flags_are_kept, motion_is_kept}
use Rattle.actor_turns.proofs.world.World.keeps_order.Goals as goal

pub returns-clause-link : goal.returns-clause-link
returns-clause-link g c = let v = sym c.self.view_is in rw v (λ hist h. link_is_kept _ hist h c.have_room.ensures.bytes c.have_room.ensures.replies)

pub returns-clause-flags : goal.returns-clause-flags
returns-clause-flags g c = let v = sym c.self.view_is in rw v (λ hist h. flags_are_kept _ hist h)

pub returns-clause-motion : goal.returns-clause-motion
returns-clause-motion g c = let v = sym c.self.view_is in rw v (λ hist h. motion_is_kept _ hist h c.have_room-2.ensures)
