use Rattle.stream_host.proofs.Waiting.{waits_are_for_answers}
use Rattle.stream_host.proofs.laws.hosts_wait_for_answers.Goals as goal

pub returns : goal.returns
returns c = waits_are_for_answers
