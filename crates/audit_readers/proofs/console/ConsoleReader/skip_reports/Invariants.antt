use Rattle.std.proofs.Common.{◌-◌}
use Rattle.audit_readers.specs.Windows.{too_long}
use Rattle.audit_readers.proofs.Skipping.{HasSkipped}
use Rattle.audit_readers.proofs.console.ConsoleReader.skip_reports.Given as goal

abbrev pub invariant-loop-self : goal.invariant-loop-self
invariant-loop-self g l = HasSkipped l.fn.self l.self (g.S.Source.state l.fn.source) (g.S.Source.state l.source)

abbrev pub decreases-loop-self : goal.decreases-loop-self
decreases-loop-self g l = too_long - l.self.place
