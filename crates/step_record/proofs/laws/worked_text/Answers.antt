use Rattle.step_record.proofs.Placed.{worked}
use Rattle.step_record.proofs.laws.worked_text.Goals as goal

pub returns : goal.returns
returns c = worked
