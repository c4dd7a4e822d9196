use Rattle.board_journal.specs.Steps.{port_log}
use Rattle.board_rules.proofs.Limits.{may_publish_next}
use Rattle.board_rules.proofs.Unstopped.{journals_never_stop, sent_alone, done_within}
use Rattle.board_rules.proofs.laws.journals_tell_of_no_stop.Goals as goal

pub returns-clause-sent : goal.returns-clause-sent
returns-clause-sent c first h k = sent_alone (port_log h) (journals_never_stop first h k)

pub returns-clause-piece : goal.returns-clause-piece
returns-clause-piece c = may_publish_next

pub returns-clause-done : goal.returns-clause-done
returns-clause-done c = done_within
