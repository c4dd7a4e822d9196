use Rattle.std.proofs.Common.{refl}
use Rattle.audit_readers.proofs.Holding.{none_come}
use Rattle.audit_readers.proofs.holds.Holds.new.Goals as goal

pub returns-clause-come : goal.returns-clause-come
returns-clause-come c = none_come (record { stripper = c.new.result; count = 0 }) c.new.ensures refl
