use Rattle.std.proofs.Common.{refl}
use Rattle.audit_readers.proofs.Bytes.{nothing_came}
use Rattle.audit_readers.proofs.job_line.JobLine.new.Goals as goal

pub returns-clause-come : goal.returns-clause-come
returns-clause-come c = nothing_came (record { comment = c.new.result; kept = c.new-2.result.items; resets = 0; cuts = 0 }) c.new.ensures c.new-2.ensures refl refl
