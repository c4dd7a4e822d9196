use Rattle.std.proofs.Common.{sym, subst}
use Rattle.host_journal.specs.Steps.{beginning}
use Rattle.stream_host.proofs.Running.{logs_nothing, between_nothing}
use Rattle.actor_rows.specs.Boards.{HasTold}
use Rattle.actor_rows.proofs.Telling.{told_none}
use Rattle.actor_rows.proofs.list_board.RoomyLine.over.Goals as goal

pub invariant_of-result : goal.invariant_of-result
invariant_of-result g c =
    let stands = c.args.attended in
    (beginning stands, subst (HasTold 0 0 0 0) (sym (logs_nothing stands)) told_none, c.new.ensures, between_nothing stands)
