use Rattle.std.proofs.Common.{◌-◌}
use Rattle.run_rules.specs.Readings.{largest_job}
use Rattle.audit_readers.proofs.Holding.{HasCounted}
use Rattle.audit_readers.proofs.jobs.JobReader.count_holds.Given as goal

abbrev pub invariant-loop-byte : goal.invariant-loop-byte
invariant-loop-byte g l = HasCounted l.fn.self l.self (g.S.Source.state l.fn.source) (g.S.Source.state l.source) l.holds

abbrev pub decreases-loop-byte : goal.decreases-loop-byte
decreases-loop-byte g l = largest_job - l.self.place
