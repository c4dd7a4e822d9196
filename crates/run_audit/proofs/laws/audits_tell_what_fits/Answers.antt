use Rattle.run_audit.proofs.Answered.{tells}
use Rattle.run_audit.proofs.laws.audits_tell_what_fits.Goals as goal

pub returns : goal.returns
returns c = tells
