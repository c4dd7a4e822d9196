use Rattle.std.proofs.Common.{ap, ◌∙◌}
use Rattle.motion_ring.specs.declared.lists.Taken.{Taken}
use Rattle.motion_ring.proofs.Ticks.{segment_ticks}
use Rattle.motion_ring.proofs.tests.halt_often.Goals as goal

pub loop-preserved-in-Some-Segment : goal.loop-preserved-in-Some-Segment
loop-preserved-in-Some-Segment g c =
    ap (λ (t : Taken). t.left) (rw c.in-Some-Segment.field-0-is at c.in-Some-Segment.ensures.some) ∙ segment_ticks c.in-Some-Segment.segment
