use Rattle.std.proofs.Common.{sym}
use Rattle.step_line.proofs.Finished.{segment_ticks}
use Rattle.step_line.proofs.counts.tick_count.Goals as goal

pub returns-in-Segment : goal.returns-in-Segment
returns-in-Segment c = rw c.in-Segment.is (sym (segment_ticks c.in-Segment.segment))
