use Rattle.stream_host.proofs.Links.{behind_taken}
use Rattle.stream_host.proofs.Pauses.{words_pause}
use Rattle.stream_host.proofs.Pieces.{all_are_sent, lines_back}
use Rattle.host_journal.specs.Jobs.{sent_text}
use Rattle.stream_host.proofs.laws.links_carry_lines.Goals as goal

pub returns-clause-all : goal.returns-clause-all
returns-clause-all c = all_are_sent

pub returns-clause-lines : goal.returns-clause-lines
returns-clause-lines c = lines_back

pub returns-clause-untaken : goal.returns-clause-untaken
returns-clause-untaken c = behind_taken

pub returns-clause-pauses : goal.returns-clause-pauses
returns-clause-pauses c = λ line. words_pause (sent_text line)
