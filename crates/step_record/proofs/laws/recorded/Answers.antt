use Rattle.step_record.proofs.Turns.{has_front, has_all, has_failed}
use Rattle.step_record.proofs.laws.recorded.Goals as goal

pub returns-clause-front : goal.returns-clause-front
returns-clause-front c = has_front

pub returns-clause-all : goal.returns-clause-all
returns-clause-all c = has_all

pub returns-clause-failed : goal.returns-clause-failed
returns-clause-failed c = has_failed
