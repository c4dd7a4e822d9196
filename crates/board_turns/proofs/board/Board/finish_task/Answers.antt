use Rattle.std.proofs.Common.{arith, rules, ◌≡◌, ◌∙◌, true, sym, ap, subst}
use Rattle.board_rules.specs.Turns.{awaits_motion}
use Rattle.board_turns.specs.declared.board.Board.{Board}
use Rattle.board_turns.specs.declared.board.Flags.{Flags}
use Rattle.board_turns.specs.Turning.{WorksOn}
use Rattle.board_turns.proofs.Ends.{works_passed, goes_on_stopped, ready_stopped, needs_no_wait, still_open}
use Rattle.board_turns.proofs.Nexts.{may_await_now}
use Rattle.board_turns.proofs.Resetting.{awaits_no_reply}
use Rattle.board_turns.proofs.board.Board.finish_task.Goals as goal

pub await_motion-requires : goal.await_motion-requires
await_motion-requires g c = (
  omega arith,
  (
    let r = c.requires.stands in let first = r.1 in
        let awaits = subst (λ ts. awaits_motion ts ≡ true) r.4.lines.left_is (sym c.if-not-awaits_motion.ensures) in
        (r.0, first, r.2, r.3, r.4, may_await_now first c.args.self.now r.2 r.4 r.5 r.6 awaits),
    (
      search rules,
      search rules,
    ),
  ),
)

pub do_task-requires-2 : goal.do_task-requires-2
do_task-requires-2 g c = (
  omega arith,
  (
    let r = c.requires.stands in let first = r.1 in
        let awaits = subst (λ ts. awaits_motion ts ≡ true) r.4.lines.left_is (sym c.if-not-awaits_motion.ensures) in
        let n = c.in_default.ensures.over r.0 first r.2 r.3 r.4 (may_await_now first c.args.self.now r.2 r.4 r.5 r.6 awaits) in
        let m = c.pass.ensures.passed first n.0 n.2 n.3 in
        (r.0, first, m.0, rw m.3.port n.1, m.1, ready_stopped first n.0 m.0 (ready_stopped first r.2 n.0 r.5 n.4 n.3) m.3.passes m.2, goes_on_stopped first m.0 m.2, needs_no_wait first c.pass.new.self m.0 m.1 m.2 m.4 m.5),
    (
      let r = c.requires.stands in let first = r.1 in
          let awaits = subst (λ ts. awaits_motion ts ≡ true) r.4.lines.left_is (sym c.if-not-awaits_motion.ensures) in
          let n = c.in_default.ensures.over r.0 first r.2 r.3 r.4 (may_await_now first c.args.self.now r.2 r.4 r.5 r.6 awaits) in
          still_open c.args.self.now c.await_motion.new.self c.pass.new.self (sym c.if-not-awaits_motion.ensures) (ap (λ (b : Board _). b.lines) c.in_default.ensures.same)
          (ap (λ (b : Board _). b.closing) c.pass.ensures.same) (c.pass.ensures.closing first n.0 n.2),
      (
        search rules,
        (
          search rules,
          λ none.
              ap (λ (b : Board _). b.resetting) c.pass.ensures.same ∙ ap (λ (b : Board _). b.resetting) c.in_default.ensures.same
              ∙ c.requires.unreset (awaits_no_reply c.args.self.now.lines.left (sym c.if-not-awaits_motion.ensures)),
        ),
      ),
    ),
  ),
)

pub returns-clause-goes_on : goal.returns-clause-goes_on
returns-clause-goes_on g c = λ rest first h stands keeps ready goes.
    let awaits = subst (λ ts. awaits_motion ts ≡ true) keeps.lines.left_is (sym c.if-not-awaits_motion.ensures) in
    let n = c.in_default.ensures.over rest first h stands keeps (may_await_now first c.args.self.now h keeps ready goes awaits) in
    let m = c.pass.ensures.passed first n.0 n.2 n.3 in
    let d = c.do_task-2.ensures.goes_on rest first m.0 (rw m.3.port n.1) m.1 (ready_stopped first n.0 m.0 (ready_stopped first h n.0 ready n.4 n.3) m.3.passes m.2) (goes_on_stopped first m.0 m.2) (needs_no_wait first c.pass.new.self m.0 m.1 m.2 m.4 m.5) in
    let s = g.P.EpochPort.stands c.do_task-2.new.port rest first in
    let same = ap (λ (b : Board _). b.flags) c.pass.ensures.same ∙ ap (λ (b : Board _). b.flags) c.in_default.ensures.same in
    subst (λ (f : Flags). WorksOn first s c.do_task-2.result f c.do_task-2.new.self h) same
    (works_passed first s c.do_task-2.result c.pass.new.self.flags c.do_task-2.new.self h n.0 n.4 (works_passed first s c.do_task-2.result c.pass.new.self.flags c.do_task-2.new.self n.0 m.0 m.3.passes d))

pub returns-in-Some-clause-goes_on : goal.returns-in-Some-clause-goes_on
returns-in-Some-clause-goes_on g c = λ rest first h stands keeps ready goes.
    let awaits = subst (λ ts. awaits_motion ts ≡ true) keeps.lines.left_is (sym c.if-not-awaits_motion.ensures) in
    c.in-Some.ensures.waits rest first h stands keeps (may_await_now first c.args.self.now h keeps ready goes awaits)

pub pass-requires : goal.pass-requires
pass-requires g c = (
  omega arith,
  let r = c.requires.stands in let first = r.1 in
      let awaits = subst (λ ts. awaits_motion ts ≡ true) r.4.lines.left_is (sym c.if-not-awaits_motion.ensures) in
      let n = c.in_default.ensures.over r.0 first r.2 r.3 r.4 (may_await_now first c.args.self.now r.2 r.4 r.5 r.6 awaits) in
      (first, n.0, n.2, n.3),
)

pub do_task-requires : goal.do_task-requires
do_task-requires g c = (
  omega arith,
  (
    let r = c.requires.stands in let first = r.1 in
        (r.0, first, r.2, r.3, r.4, r.5, r.6, λ awaits. absurd (let e = c.if-not-awaits_motion.ensures ∙ ap awaits_motion r.4.lines.left_is ∙ awaits in cc)),
    (
      search rules,
      (
        search rules,
        (
          search rules,
          search rules,
        ),
      ),
    ),
  ),
)

pub returns-then-not-awaits_motion-clause-goes_on : goal.returns-then-not-awaits_motion-clause-goes_on
returns-then-not-awaits_motion-clause-goes_on g c = λ rest first h stands keeps ready goes.
    c.do_task.ensures.goes_on rest first h stands keeps ready goes (λ awaits. absurd (let e = c.if-not-awaits_motion.ensures ∙ ap awaits_motion keeps.lines.left_is ∙ awaits in cc))
