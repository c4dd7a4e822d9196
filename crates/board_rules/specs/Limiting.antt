-- A line that a soft limit stops: whether the motion is still to be stopped for it.
use Rattle.std.specs.Prelude.{Bool, false, [], ◌∷◌}
use Rattle.feed_hold.specs.Motions.{Call}
use Rattle.feed_hold.specs.Motions.Call.{on_limit}
use Rattle.board_journal.specs.Steps.{Journal}
use Rattle.board_journal.specs.Steps.Step.{began, became}
use Rattle.board_rules.specs.Turns.{halts_next}

abbrev pub pending_behind : Call → Bool → Bool
pending_behind on_limit pending = false
pending_behind call pending = pending

-- the last line that was begun is to halt the machine, and the motion was not stopped for that yet
abbrev pub limit_pending : Journal → Bool
limit_pending [] = false
limit_pending (began o ∷ h) = halts_next o.work
limit_pending (became call m ∷ h) = pending_behind call (limit_pending h)
limit_pending (_ ∷ h) = limit_pending h
