use Rattle.stream_host.proofs.Keeping.{few_scanned, few_read, open_is}
use Rattle.stream_host.proofs.Sending.{sum_is, counts_are, few_stored}
use Rattle.stream_host.proofs.Epochs.{room_is}
use Rattle.stream_host.proofs.laws.hosts_keep_to_their_count.Goals as goal

pub returns-clause-count : goal.returns-clause-count
returns-clause-count c = sum_is

pub returns-clause-room : goal.returns-clause-room
returns-clause-room c = λ room b h conducted may. (open_is room b h conducted may.calm may.next, room_is room b h conducted may)

pub returns-clause-answers : goal.returns-clause-answers
returns-clause-answers c = counts_are

pub returns-clause-read : goal.returns-clause-read
returns-clause-read c = λ room h conducted. (few_scanned room h conducted, few_read room h conducted)

pub returns-clause-bytes : goal.returns-clause-bytes
returns-clause-bytes c = few_stored
