use Rattle.std.proofs.Common.{ap, ◌∙◌}
use Rattle.motion_ring.specs.declared.lists.Taken.{Taken}
use Rattle.motion_ring.proofs.Ticks.{segment_ticks}
use Rattle.ring_speed.proofs.pieces.get_all.Goals as goal

pub count_ticks-requires : goal.count_ticks-requires
count_ticks-requires g c =
    ap (λ (t : Taken). t.left) (rw c.in-Some-Segment.field-0-is at c.in-Some-Segment.ensures.some) ∙ segment_ticks c.in-Some-Segment.segment
