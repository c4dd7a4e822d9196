use Rattle.audited_runs.proofs.SentFront.{texts_front}
use Rattle.audited_runs.proofs.laws.runs_send_a_front.Goals as goal

pub returns : goal.returns
returns c = texts_front
