use Rattle.stream_host.proofs.Keeping.{stored_is, shut_is}
use Rattle.stream_host.proofs.Sending.{sent_so_far, sent_all, all_stored, stop_behind, stop_calm}
use Rattle.stream_host.proofs.laws.hosts_send_their_lines.Goals as goal

pub returns-clause-stored : goal.returns-clause-stored
returns-clause-stored c = stored_is

pub returns-clause-so_far : goal.returns-clause-so_far
returns-clause-so_far c = sent_so_far

pub returns-clause-stop : goal.returns-clause-stop
returns-clause-stop c = stop_behind

pub returns-clause-whole : goal.returns-clause-whole
returns-clause-whole c = λ room h conducted closed calm.
    (let all = shut_is room h conducted closed calm in (sent_all room h conducted all (stop_calm h calm), all_stored room h conducted all))
