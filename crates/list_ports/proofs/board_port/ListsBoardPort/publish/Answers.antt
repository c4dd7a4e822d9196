use Rattle.std.proofs.Common.{◌≤◌, ◌<◌, ◌+◌, length, sym, arith}
use Rattle.std.proofs.lemmas.Result.{on_ok_weaker}
use Rattle.step_line.specs.Finishing.{most_unfinished}
use Rattle.list_ports.specs.Joining.{one_if_some}
use Rattle.list_ports.proofs.Steps.{all_unfinished, piece_handed_back, piece_published}
use Rattle.list_ports.proofs.board_port.ListsBoardPort.publish.Goals as goal

pub returns-then-unfinished-ge-MOST_UNFINISHED-clause-full : goal.returns-then-unfinished-ge-MOST_UNFINISHED-clause-full
returns-then-unfinished-ge-MOST_UNFINISHED-clause-full g c far l joined =
    let v = sym c.self.view_is in
    let q = c.requires in
    let n = rw v at c.unfinished.ensures in
    let t = c.if-unfinished-ge-MOST_UNFINISHED.true in
    let many : most_unfinished ≤ length c.self.inside.pieces.items + one_if_some c.self.inside.left = omega (arith, n, t) in
    let h = piece_handed_back _ _ _ _ (rw v at joined) (all_unfinished _ _ _ _ (rw v at q.2) c.args.p q.3) many in
    (c.self.inside.done, rw v h.0, h.1)

pub returns-then-unfinished-ge-MOST_UNFINISHED-clause-cause : goal.returns-then-unfinished-ge-MOST_UNFINISHED-clause-cause
returns-then-unfinished-ge-MOST_UNFINISHED-clause-cause g c =
    let v = sym c.self.view_is in
    let n = rw v at c.unfinished.ensures in
    let t = c.if-unfinished-ge-MOST_UNFINISHED.true in
    let many : most_unfinished ≤ length c.self.inside.pieces.items + one_if_some c.self.inside.left = omega (arith, n, t) in
    rw v many

pub returns-clause-ok : goal.returns-clause-ok
returns-clause-ok g c =
    let v = sym c.self.view_is in
    let n = rw v at c.unfinished.ensures in
    let t = c.if-unfinished-ge-MOST_UNFINISHED.false in
    let room : length c.self.inside.pieces.items + one_if_some c.self.inside.left < most_unfinished = omega (arith, n, t) in
    on_ok_weaker c.try_push_back.result (λ e far l joined may. rw e (piece_published _ _ _ _ (rw v at joined) c.args.p may room)) c.try_push_back.ensures.ok
