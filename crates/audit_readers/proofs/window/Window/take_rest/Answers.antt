use Rattle.std.proofs.Common.{length, ap}
use Rattle.audit_readers.proofs.Taking.{more_taken}
use Rattle.audit_readers.proofs.window.Window.take_rest.Goals as goal

pub loop-place-preserved : goal.loop-place-preserved
loop-place-preserved g c =
    more_taken c.args.self.now c.loop-place.self c.fill_up.new.self c.take.new.self (g.S.Source.state c.args.source.now) (g.S.Source.state c.loop-place.source) (g.S.Source.state c.fill_up.new.source)
    c.args.before c.loop-place.place (length c.waiting-count.result.now) c.loop-place.invariant c.in_ok-fill_up.ensures.filled (ap length c.waiting-count.ensures) c.take.ensures.waiting c.take.ensures.ended
