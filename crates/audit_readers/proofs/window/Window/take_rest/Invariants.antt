use Rattle.std.proofs.Common.{◌-◌}
use Rattle.audit_readers.specs.Windows.{too_long}
use Rattle.audit_readers.proofs.Taking.{HasTaken}
use Rattle.audit_readers.proofs.window.Window.take_rest.Given as goal

abbrev pub invariant-loop-place : goal.invariant-loop-place
invariant-loop-place g l = HasTaken l.fn.self l.self (g.S.Source.state l.fn.source) (g.S.Source.state l.source) l.before l.place

abbrev pub decreases-loop-place : goal.decreases-loop-place
decreases-loop-place g l = too_long - l.place
