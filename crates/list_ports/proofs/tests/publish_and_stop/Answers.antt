use Rattle.std.proofs.Common.{◌∷◌, arith}
use Rattle.board_journal.specs.Ports.PortStep.{published}
use Rattle.list_ports.proofs.Standing.{mark, may_publish, may_stop, stopped_then}
use Rattle.list_ports.proofs.tests.publish_and_stop.Goals as goal

pub publish-requires : goal.publish-requires
publish-requires c = let q = c.requires in let w = c.ranges.ticks.fits in (omega arith, ((q.host, q.pulse), q.board, q.joined, may_publish _ _ q (omega arith)))

pub stop-requires : goal.stop-requires
stop-requires c = let q = c.requires in let w = c.ranges.ticks.fits in
    (omega arith, ((q.host, q.pulse), published mark ∷ q.board, c.in-Ok.ensures.ok (q.host, q.pulse) q.board q.joined (may_publish _ _ q (omega arith)), may_stop _ _ q))

pub returns-in-Ok : goal.returns-in-Ok
returns-in-Ok c = λ is. let q = c.requires in let w = c.ranges.ticks.fits in
    let j = c.in-Ok.ensures.ok (q.host, q.pulse) q.board q.joined (may_publish _ _ q (omega arith)) in
    stopped_then _ _ _ q (c.stop.ensures (q.host, q.pulse) (published mark ∷ q.board) j (may_stop _ _ q))
