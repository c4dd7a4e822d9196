use Rattle.std.proofs.Common.{arith, rules, ◌-◌, ◌≡◌, true, false, sym, ◌∙◌, ap}
use Rattle.board_rules.specs.Turns.{is_full, is_halting, needs_motion, is_limited}
use Rattle.board_turns.proofs.Nexts.{goes_on, is_halted, lets_lines}
use Rattle.board_turns.proofs.board.Board.serve_lines.Goals.{else-is_halting-via-then-is_halting+else-is_held_up, else-is_halting-via-else-is_halting}
use Rattle.board_turns.proofs.board.Board.serve_lines.Goals as goal

pub finish_task-requires : goal.finish_task-requires
finish_task-requires g c = (
  omega arith,
  (
    let r = c.requires.stands in let first = r.1 in
        let s = c.args.self.now in
        let held : is_halting s.machine.hold.motion ≡ true → needs_motion s.lines.left s.input.whole (is_full (g.row.N - 1) s.machine.plan) ≡ false = λ e. elim c.else-is_halting.branch [
          | else-is_halting-via-then-is_halting+else-is_held_up w ↦ sym w.is_held_up.ensures ∙ w.if-is_held_up.false
          | else-is_halting-via-else-is_halting w ↦ absurd (let f = sym w.if-is_halting.false ∙ c.is_halting.ensures ∙ e in cc)
        ] in
        (r.0, first, r.2, r.3, r.4, r.5, goes_on first s r.2 r.4 held (sym c.if-is_limited.ensures)),
    (
      search rules,
      (
        search rules,
        (
          search rules,
          search rules,
        ),
      ),
    ),
  ),
)

pub returns-clause-goes_on : goal.returns-clause-goes_on
returns-clause-goes_on g c = λ rest first h stands k ready.
    let s = c.args.self.now in
    let held : is_halting s.machine.hold.motion ≡ true → needs_motion s.lines.left s.input.whole (is_full (g.row.N - 1) s.machine.plan) ≡ false = λ e. elim c.else-is_halting.branch [
      | else-is_halting-via-then-is_halting+else-is_held_up w ↦ sym w.is_held_up.ensures ∙ w.if-is_held_up.false
      | else-is_halting-via-else-is_halting w ↦ absurd (let f = sym w.if-is_halting.false ∙ c.is_halting.ensures ∙ e in cc)
    ] in
    c.finish_task.ensures.goes_on rest first h stands k ready (goes_on first s h k held (sym c.if-is_limited.ensures))

pub halt-requires : goal.halt-requires
halt-requires g c = (
  omega arith,
  (
    let r = c.requires.stands in let first = r.1 in
        (r.0, first, r.2, r.3, r.4, is_halted first c.args.self.now r.2 r.4 r.5 (sym c.if-is_halting.ensures) (sym c.if-is_held_up.ensures)),
    (
      search rules,
      search rules,
    ),
  ),
)

pub returns-then-is_held_up-clause-goes_on : goal.returns-then-is_held_up-clause-goes_on
returns-then-is_held_up-clause-goes_on g c = λ rest first h stands k ready.
    c.halt.ensures.goes_on rest first h stands k (is_halted first c.args.self.now h k ready (sym c.if-is_halting.ensures) (sym c.if-is_held_up.ensures))

pub end_limited-requires : goal.end_limited-requires
end_limited-requires g c = (
  omega arith,
  (
    let r = c.requires.stands in let first = r.1 in
        (r.0, first, r.2, r.3, r.4, r.5, ap is_limited (sym r.4.machine.motion_is) ∙ sym c.if-is_limited.ensures),
    (
      search rules,
      (
        search rules,
        (
          search rules,
          search rules,
        ),
      ),
    ),
  ),
)

pub returns-then-is_limited-clause-goes_on : goal.returns-then-is_limited-clause-goes_on
returns-then-is_limited-clause-goes_on g c = λ rest first h stands k ready.
    c.end_limited.ensures.goes_on rest first h stands k ready (ap is_limited (sym k.machine.motion_is) ∙ sym c.if-is_limited.ensures)

pub next_line-requires : goal.next_line-requires
next_line-requires g c = (
  omega arith,
  (
    let r = c.requires.stands in let first = r.1 in
        let s = c.args.self.now in
        let held : is_halting s.machine.hold.motion ≡ true → needs_motion s.lines.left s.input.whole (is_full (g.row.N - 1) s.machine.plan) ≡ false = λ e. elim c.else-is_halting.branch [
          | else-is_halting-via-then-is_halting+else-is_held_up w ↦ sym w.is_held_up.ensures ∙ w.if-is_held_up.false
          | else-is_halting-via-else-is_halting w ↦ absurd (let f = sym w.if-is_halting.false ∙ c.is_halting.ensures ∙ e in cc)
        ] in
        (r.0, first, r.2, r.3, r.4, r.5, lets_lines first s r.2 r.4 (goes_on first s r.2 r.4 held (sym c.if-is_limited.ensures))),
    (
      search rules,
      (
        search rules,
        (
          search rules,
          (
            search rules,
            search rules,
          ),
        ),
      ),
    ),
  ),
)

pub returns-then-is_done-clause-goes_on : goal.returns-then-is_done-clause-goes_on
returns-then-is_done-clause-goes_on g c = λ rest first h stands k ready.
    let s = c.args.self.now in
    let held : is_halting s.machine.hold.motion ≡ true → needs_motion s.lines.left s.input.whole (is_full (g.row.N - 1) s.machine.plan) ≡ false = λ e. elim c.else-is_halting.branch [
      | else-is_halting-via-then-is_halting+else-is_held_up w ↦ sym w.is_held_up.ensures ∙ w.if-is_held_up.false
      | else-is_halting-via-else-is_halting w ↦ absurd (let f = sym w.if-is_halting.false ∙ c.is_halting.ensures ∙ e in cc)
    ] in
    c.next_line.ensures.goes_on rest first h stands k ready (lets_lines first s h k (goes_on first s h k held (sym c.if-is_limited.ensures)))
