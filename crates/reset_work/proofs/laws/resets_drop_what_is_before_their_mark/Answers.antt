use Rattle.reset_work.proofs.Parting.{dropped_there, newer_there}
use Rattle.reset_work.proofs.laws.resets_drop_what_is_before_their_mark.Goals as goal

pub returns-clause-bytes : goal.returns-clause-bytes
returns-clause-bytes c = dropped_there

pub returns-clause-marks : goal.returns-clause-marks
returns-clause-marks c = newer_there
