use Rattle.std.proofs.Common.{sym, ◌∙◌}
use Rattle.board_journal.specs.Steps.{hand_of, given_of, motion_of, plan_of}
use Rattle.board_turns.specs.Turning.{starting}
use Rattle.board_turns.proofs.Steps.{started}
use Rattle.board_turns.proofs.Adding.{none_waits_now, may_start, filled_added, filled_started}
use Rattle.board_turns.proofs.board.Board.fill.Goals as goal

pub returns-then-needs_start-clause-filled : goal.returns-then-needs_start-clause-filled
returns-then-needs_start-clause-filled g c first h k =
    let n = c.add_moves.ensures.added first h k in let s = c.add_moves.new.self in let need = c.needs_start.ensures.yes c.if-needs_start.true in (
      starting s.jogged n.0,
      started first s _ s.jogged n.0 n.1 (sym n.1.machine.motion_is ∙ need.0) (may_start first s n.0 n.1 (sym n.1.machine.motion_is ∙ need.0) need.1 need.2) (c.start.ensures.runs (plan_of n.0) (motion_of first n.0) (hand_of n.0) (given_of n.0) n.1.machine),
      filled_started first s.jogged h n.0 n.2,
    )

pub returns-else-needs_start-clause-filled : goal.returns-else-needs_start-clause-filled
returns-else-needs_start-clause-filled g c first h k =
    let n = c.add_moves.ensures.added first h k in let s = c.add_moves.new.self in
    (n.0, n.1, filled_added first h n.0 n.2 (none_waits_now first s n.0 n.1 (c.needs_start.ensures.no c.if-needs_start.false)))
