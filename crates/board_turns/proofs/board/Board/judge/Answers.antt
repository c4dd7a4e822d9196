use Rattle.std.proofs.Common.{arith, rules, ◌≡◌, ◌∷◌, ◌∙◌, inl, inr, refl, subst}
use Rattle.feed_hold.specs.declared.Motion.TheVariants as motions
use Rattle.line_interpreter.specs.Lefts.{IsTodo}
use Rattle.line_interpreter.specs.declared.tasks.Todo.{Todo}
use Rattle.line_interpreter.specs.declared.tasks.Todo.TheVariants as todo
use Rattle.feed_hold.specs.Motions.Call.{on_limit, on_unlock}
use Rattle.board_journal.specs.Steps.{hand_of, given_of, plan_of, motion_of}
use Rattle.board_journal.specs.Steps.Step.{began, became}
use Rattle.board_machine.specs.Machines.{limit_motion}
use Rattle.board_turns.proofs.Begins.{begun, begun_limited, begun_unlocked, machine_judged, may_limit}
use Rattle.board_turns.proofs.board.Board.judge.Goals as goal

pub limit-requires : goal.limit-requires
limit-requires g c = (
  omega arith,
  let r = c.requires.may in let first = r.0 in
      let o = c.judge_line.ensures.judged first r.1 r.2 r.3 in
      let e : c.todo.result ≡ todo.Halt = search rules in
      may_limit first c.args.self.now c.judge_line.new.self r.1 o.0 o.1 (subst (λ (t : Todo). IsTodo t c.judge_line.new.self.lines.left) e c.todo.ensures),
)

pub returns-then-eq-clause-begun : goal.returns-then-eq-clause-begun
returns-then-eq-clause-begun g c = λ first h k may.
    let s = c.args.self.now in
    let d = c.judge_line.new.self in
    let o = c.judge_line.ensures.judged first h k may in
    let e : c.todo.result ≡ todo.Halt = search rules in
    let next = subst (λ (t : Todo). IsTodo t d.lines.left) e c.todo.ensures in (
      o.0,
      became on_limit (limit_motion (motion_of first h)) ∷ began o.0 ∷ h,
      begun_limited first s d c.limit.new.self h o.0 o.1 c.requires.unreset next (c.limit.ensures (plan_of h) (motion_of first h) (hand_of h) (given_of h) (machine_judged first s d h o.0 o.1)),
      inr (inl refl),
    )

pub unlock-requires : goal.unlock-requires
unlock-requires g c = (
  omega arith,
  let r = c.requires.may in let first = r.0 in
      let o = c.judge_line.ensures.judged first r.1 r.2 r.3 in
      (machine_judged first c.args.self.now c.judge_line.new.self r.1 o.0 o.1).motion_is ∙ (c.is_unlocked-unlocks.ensures.yes first r.1 r.2 c.if-unlocks.true).0,
)

pub returns-then-unlocks-clause-begun : goal.returns-then-unlocks-clause-begun
returns-then-unlocks-clause-begun g c = λ first h k may.
    let s = c.args.self.now in
    let d = c.judge_line.new.self in
    let o = c.judge_line.ensures.judged first h k may in
    let alarm = c.is_unlocked-unlocks.ensures.yes first h k c.if-unlocks.true in (
      o.0,
      became on_unlock motions.Idle ∷ began o.0 ∷ h,
      begun_unlocked first s d c.unlock.new.self h o.0 o.1 c.requires.unreset alarm.0 alarm.1 (c.unlock.ensures (plan_of h) (motion_of first h) (hand_of h) (given_of h) (machine_judged first s d h o.0 o.1)),
      inr (inr refl),
    )

pub returns-else-unlocks-clause-begun : goal.returns-else-unlocks-clause-begun
returns-else-unlocks-clause-begun g c = λ first h k may.
    let s = c.args.self.now in
    let d = c.judge_line.new.self in
    let o = c.judge_line.ensures.judged first h k may in
    let other : c.todo.result ≡ todo.Halt → ⊥ = search rules in
    (o.0, began o.0 ∷ h, begun first s d c.todo.result h o.0 o.1 c.requires.unreset c.todo.ensures other (c.is_unlocked-unlocks.ensures.no first h k c.if-unlocks.false), inl refl)
