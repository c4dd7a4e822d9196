use Rattle.std.proofs.Common.{arith, sym, ◌∙◌}
use Rattle.board_journal.specs.Steps.{hand_of, given_of, plan_of, motion_of}
use Rattle.board_turns.proofs.Limiting.{locked_before, was_slowing, locks_now}
use Rattle.board_turns.proofs.board.Board.lock.Goals as goal

pub lock-requires : goal.lock-requires
lock-requires g c = (
  omega arith,
  let r = c.requires in let first = r.0 in
      let s = c.args.self.now in
      r.2.machine.motion_is ∙ was_slowing first s r.1 r.2 r.3 (λ e. absurd (let f = sym c.if-not-is_locked.true ∙ c.is_locked.ensures.1 e in cc)),
)

pub returns-then-not-is_locked-clause-locked : goal.returns-then-not-is_locked-clause-locked
returns-then-not-is_locked-clause-locked g c first h k at =
    let s = c.args.self.now in
    let slows = was_slowing first s h k at (λ e. absurd (let f = sym c.if-not-is_locked.true ∙ c.is_locked.ensures.1 e in cc)) in
    locks_now first s c.lock.new.self h k at slows (c.lock.ensures (plan_of h) (motion_of first h) (hand_of h) (given_of h) k.machine)

pub returns-else-not-is_locked-clause-locked : goal.returns-else-not-is_locked-clause-locked
returns-else-not-is_locked-clause-locked g c first h k at = locked_before first c.args.self.now h k at (c.is_locked.ensures.0 c.if-not-is_locked.false)
