use Rattle.audit_readers.proofs.Filling.{HasFilled, to_read}
use Rattle.audit_readers.proofs.window.Window.fill_up.Given as goal

abbrev pub invariant-loop-self : goal.invariant-loop-self
invariant-loop-self g l = HasFilled l.initial.self l.self (g.S.Source.state l.initial.source) (g.S.Source.state l.source)

abbrev pub decreases-loop-self : goal.decreases-loop-self
decreases-loop-self g l = to_read l.self
