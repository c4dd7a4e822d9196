use Rattle.std.proofs.Common.{refl, sym, ap, ◌∙◌}
use Rattle.feed_hold.specs.Motions.Call.{on_start}
use Rattle.board_journal.specs.Steps.{hand_of, given_of, plan_of, motion_of}
use Rattle.board_rules.specs.Turns.{has_blocks}
use Rattle.board_turns.proofs.Begins.{may_start, judges_started}
use Rattle.board_turns.proofs.Steps.{started}
use Rattle.board_machine.specs.Machines.{start_motion}
use Rattle.board_turns.specs.Turning.{starting}
use Rattle.board_turns.proofs.Starting.{none_left_to_change}
use Rattle.board_rules.proofs.Tries.{alone_motion}
use Rattle.board_turns.proofs.board.Board.start_before_line.Goals as goal

-- src/board.rt:384:5
pub returns-then-is_waiting-clause-started : goal.returns-then-is_waiting-clause-started
returns-then-is_waiting-clause-started g c = λ first h k looked.
    let waiting = c.is_waiting.ensures.yes c.if-is_waiting.true in
    let blocks = ap (λ p. has_blocks p.blocks) (sym k.machine.plan_is) ∙ waiting.1 in (
      starting c.args.self.now.jogged h,
      started first c.args.self.now c.start.new.self c.args.self.now.jogged h k (sym k.machine.motion_is ∙ waiting.0) (may_start first c.args.self.now h k looked blocks (sym k.input.dollar_is ∙ c.if-self.true))
          (c.start.ensures.runs (plan_of h) (motion_of first h) (hand_of h) (given_of h) k.machine),
      judges_started first c.args.self.now.jogged h looked blocks,
      alone_motion first (on_start c.args.self.now.jogged) (start_motion c.args.self.now.jogged) h refl (none_left_to_change first c.args.self.now.jogged h),
    )
