use Rattle.std.proofs.Common.{arith, rules, ◌≡◌, false, sym, ap, ◌∙◌}
use Rattle.run_rules.specs.Work.Task.{finish, halt}
use Rattle.board_turns.proofs.Stages.{limited_finish}
use Rattle.board_journal.specs.Steps.{left_of}
use Rattle.board_rules.specs.Turns.{awaits_motion}
use Rattle.board_rules.proofs.Facts.{none_awaited}
use Rattle.board_turns.proofs.Ends.{may_run}
use Rattle.board_turns.proofs.Limiting.{nothing_else}
use Rattle.board_turns.proofs.Nexts.{lets_locked}
use Rattle.board_turns.proofs.Steps.{is_next}
use Rattle.board_turns.proofs.board.Board.end_limited.Goals.{else-self-via-then-self+else-is_done, else-self-via-else-self}
use Rattle.board_turns.proofs.board.Board.end_limited.Goals as goal

pub finish-requires : goal.finish-requires
finish-requires g c = (
  omega arith,
  (
    let r = c.requires.stands in let first = r.1 in
        let next = is_next first c.args.self.now r.2 finish r.4 c.in-Finish.ensures in
        (r.0, first, r.2, r.3, r.4, may_run first r.2 r.5 (none_awaited (left_of first r.2) (ap awaits_motion next)), limited_finish first r.2 r.4.conducted r.6 next, next),
    (
      search rules,
      search rules,
    ),
  ),
)

pub unreachable-requires : goal.unreachable-requires
unreachable-requires g c =
    let r = c.requires.stands in let first = r.1 in
    let d = c.in_default in
    nothing_else first c.args.self.now r.2 c.todo.result r.4 r.6 c.todo.ensures d.not-Halt d.not-Tell d.not-Finish d.not-Nothing

pub returns-in-Finish-clause-goes_on : goal.returns-in-Finish-clause-goes_on
returns-in-Finish-clause-goes_on g c = λ rest first h stands k ready is.
    let next = is_next first c.args.self.now h finish k c.in-Finish.ensures in
    c.finish.ensures.goes_on rest first h stands k (may_run first h ready (none_awaited (left_of first h) (ap awaits_motion next))) (limited_finish first h k.conducted is next) next

pub returns-then-is_done-clause-goes_on : goal.returns-then-is_done-clause-goes_on
returns-then-is_done-clause-goes_on g c = λ rest first h stands k ready is.
    let n = c.close_limited.ensures.goes_on first h k ready (sym k.lines.left_is ∙ c.is_done.ensures.0 c.if-is_done.true) in
    (n.0, rw n.1 stands, n.2)

pub returns-in-Nothing-clause-goes_on : goal.returns-in-Nothing-clause-goes_on
returns-in-Nothing-clause-goes_on g c = λ rest first h stands k ready is.
    let none : c.args.self.now.alarmed ≡ false = elim c.else-self.branch [
      | else-self-via-then-self+else-is_done w ↦ absurd (let e = sym w.if-is_done.false ∙ w.is_done.ensures.1 c.in-Nothing.ensures in cc)
      | else-self-via-else-self w ↦ w.if-self.false
    ] in
    c.next_line.ensures.goes_on rest first h stands k ready (lets_locked first c.args.self.now h k is none)

pub next_line-requires : goal.next_line-requires
next_line-requires g c = (
  omega arith,
  (
    let r = c.requires.stands in let first = r.1 in
        let none : c.args.self.now.alarmed ≡ false = elim c.else-self.branch [
          | else-self-via-then-self+else-is_done w ↦ absurd (let e = sym w.if-is_done.false ∙ w.is_done.ensures.1 c.in-Nothing.ensures in cc)
          | else-self-via-else-self w ↦ w.if-self.false
        ] in
        (r.0, first, r.2, r.3, r.4, r.5, lets_locked first c.args.self.now r.2 r.4 r.6 none),
    (
      search rules,
      (
        search rules,
        (
          search rules,
          (
            search rules,
            search rules,
          ),
        ),
      ),
    ),
  ),
)

pub halt_at_limit-requires : goal.halt_at_limit-requires
halt_at_limit-requires g c = (
  omega arith,
  (
    let r = c.requires.stands in let first = r.1 in
        (r.0, first, r.2, r.3, r.4, r.5, r.6, is_next first c.args.self.now r.2 halt r.4 c.in-Halt.ensures),
    (
      search rules,
      search rules,
    ),
  ),
)

pub returns-in-Halt-clause-goes_on : goal.returns-in-Halt-clause-goes_on
returns-in-Halt-clause-goes_on g c = λ rest first h stands k ready is.
    c.halt_at_limit.ensures.goes_on rest first h stands k ready is (is_next first c.args.self.now h halt k c.in-Halt.ensures)

pub tell-requires : goal.tell-requires
tell-requires g c = (
  omega arith,
  (
    let r = c.requires.stands in let first = r.1 in (r.0, first, r.2, r.3, r.4, r.5),
    (
      search rules,
      (
        search rules,
        search rules,
      ),
    ),
  ),
)

pub returns-in-Tell-clause-goes_on : goal.returns-in-Tell-clause-goes_on
returns-in-Tell-clause-goes_on g c = λ rest first h stands k ready is. c.tell.ensures.goes_on rest first h stands k ready

pub close_limited-requires : goal.close_limited-requires
close_limited-requires g c = (
  omega arith,
  (
    let r = c.requires.stands in let first = r.1 in
        (first, r.2, r.4, r.5, sym r.4.lines.left_is ∙ c.is_done.ensures.0 c.if-is_done.true),
    (
      search rules,
      (
        search rules,
        (
          search rules,
          search rules,
        ),
      ),
    ),
  ),
)
