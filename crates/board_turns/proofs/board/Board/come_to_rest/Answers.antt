use Rattle.std.proofs.Common.{arith, sym, ◌∙◌}
use Rattle.board_journal.specs.Steps.{hand_of, given_of, plan_of, motion_of}
use Rattle.board_turns.proofs.Stopping.{was_holding, was_stopping, comes_held, comes_locked, comes_over, comes_cut, is_uncut}
use Rattle.board_turns.proofs.board.Board.come_to_rest.Goals as goal

pub lock-requires : goal.lock-requires
lock-requires g c = (
  omega arith,
  let r = c.requires in let first = r.0 in
      r.2.machine.motion_is ∙ was_stopping first c.args.self.now r.1 r.2 r.3.stopped (sym c.if-is_limited.ensures),
)

pub returns-then-is_limited-clause-comes : goal.returns-then-is_limited-clause-comes
returns-then-is_limited-clause-comes g c first h k found =
    let s = c.args.self.now in
    comes_locked first s c.lock.new.self h k found (was_stopping first s h k found.stopped (sym c.if-is_limited.ensures)) (c.lock.ensures (plan_of h) (motion_of first h) (hand_of h) (given_of h) k.machine)

pub stop-requires : goal.stop-requires
stop-requires g c = (
  omega arith,
  let r = c.requires in let first = r.0 in
      let s = c.args.self.now in
      r.2.machine.motion_is ∙ was_holding first s r.1 r.2 r.3.stopped (sym c.if-is_limited.ensures) (λ e. absurd (let f = sym c.if-not-is_cancelled.true ∙ c.is_cancelled.ensures.1 e in cc)),
)

pub returns-then-not-is_cancelled-clause-comes : goal.returns-then-not-is_cancelled-clause-comes
returns-then-not-is_cancelled-clause-comes g c first h k found =
    let s = c.args.self.now in
    let slows = was_holding first s h k found.stopped (sym c.if-is_limited.ensures) (λ e. absurd (let f = sym c.if-not-is_cancelled.true ∙ c.is_cancelled.ensures.1 e in cc)) in
    comes_held first s c.stop.new.self h k found slows (c.stop.ensures (plan_of h) (motion_of first h) (hand_of h) (given_of h) k.machine)

pub returns-then-self-clause-comes : goal.returns-then-self-clause-comes
returns-then-self-clause-comes g c first h k found =
    let s = c.args.self.now in
    let cancelled = sym k.machine.motion_is ∙ c.is_cancelled.ensures.0 c.if-not-is_cancelled.false in
    comes_over first s c.end_cancel.new.self h k found cancelled c.if-self.true (c.end_cancel.ensures (plan_of h) (motion_of first h) (hand_of h) (given_of h) k.machine)

pub cut_jogs-requires : goal.cut_jogs-requires
cut_jogs-requires g c = (
  omega arith,
  let r = c.requires in let first = r.0 in
      let s = c.args.self.now in
      let cancelled = sym r.2.machine.motion_is ∙ c.is_cancelled.ensures.0 c.if-not-is_cancelled.false in
      (first, r.1, r.2, is_uncut first s r.1 r.2 cancelled c.if-self.false, r.3),
)

pub returns-clause-comes : goal.returns-clause-comes
returns-clause-comes g c first h k found =
    let s = c.args.self.now in
    let cancelled = sym k.machine.motion_is ∙ c.is_cancelled.ensures.0 c.if-not-is_cancelled.false in
    let uncut = is_uncut first s h k cancelled c.if-self.false in
    comes_cut first s c.cut_jogs.new.self h uncut (c.cut_jogs.ensures.made first h k uncut found)
