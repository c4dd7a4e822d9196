use Rattle.board_turns.proofs.Ends.{may_run}
use Rattle.board_turns.proofs.Nexts.{finish_next, lets_lines}
use Rattle.run_rules.specs.Work.Task.{ask, pause}
use Rattle.step_line.specs.Asking.Asked.{a_move}
use Rattle.board_journal.specs.Steps.{left_of}
use Rattle.board_rules.specs.Turns.{awaits_motion}
use Rattle.board_rules.proofs.Facts.{none_awaited}
use Rattle.std.proofs.Common.{arith, rules, ap, sym, subst}
use Rattle.board_turns.specs.declared.board.Flags.{Flags}
use Rattle.board_turns.specs.Turning.{BoardWorked}
use Rattle.board_turns.proofs.Steps.{is_next}
use Rattle.board_turns.proofs.board.Board.do_task.Goals as goal

pub finish-requires : goal.finish-requires
finish-requires g c = (
  omega arith,
  (
    let r = c.requires.stands in let first = r.1 in
        let next = finish_next first c.args.self.now r.2 r.4 r.7 c.in-Finish.ensures in
        (r.0, first, r.2, r.3, r.4, may_run first r.2 r.5 (none_awaited (left_of first r.2) (ap awaits_motion next.1)), next.0, next.1),
    (
      search rules,
      search rules,
    ),
  ),
)

pub returns-in-Finish-clause-goes_on : goal.returns-in-Finish-clause-goes_on
returns-in-Finish-clause-goes_on g c = λ rest first h stands keeps ready goes needs.
    let next = finish_next first c.args.self.now h keeps needs c.in-Finish.ensures in
    c.finish.ensures.goes_on rest first h stands keeps (may_run first h ready (none_awaited (left_of first h) (ap awaits_motion next.1))) next.0 next.1

pub next_line-requires : goal.next_line-requires
next_line-requires g c = (
  omega arith,
  (
    let r = c.requires.stands in let first = r.1 in (r.0, first, r.2, r.3, r.4, r.5, lets_lines first c.args.self.now r.2 r.4 r.6),
    (
      search rules,
      (
        search rules,
        (
          search rules,
          (
            search rules,
            search rules,
          ),
        ),
      ),
    ),
  ),
)

pub tell-requires : goal.tell-requires
tell-requires g c = (
  omega arith,
  (
    let r = c.requires.stands in let first = r.1 in (r.0, first, r.2, r.3, r.4, r.5),
    (
      search rules,
      (
        search rules,
        search rules,
      ),
    ),
  ),
)

pub mark-requires : goal.mark-requires
mark-requires g c = (
  omega arith,
  (
    let r = c.requires.stands in let first = r.1 in (r.0, first, r.2, r.3, r.4, r.5),
    (
      search rules,
      (
        search rules,
        (
          search rules,
          search rules,
        ),
      ),
    ),
  ),
)

pub returns-in-Nothing-clause-goes_on : goal.returns-in-Nothing-clause-goes_on
returns-in-Nothing-clause-goes_on g c = λ rest first h stands keeps ready goes needs. c.next_line.ensures.goes_on rest first h stands keeps ready (lets_lines first c.args.self.now h keeps goes)

pub returns-in-Tell-clause-goes_on : goal.returns-in-Tell-clause-goes_on
returns-in-Tell-clause-goes_on g c = λ rest first h stands keeps ready goes needs. c.tell.ensures.goes_on rest first h stands keeps ready

pub returns-in-Mark-clause-goes_on : goal.returns-in-Mark-clause-goes_on
returns-in-Mark-clause-goes_on g c = λ rest first h stands keeps ready goes needs. c.mark.ensures.goes_on rest first h stands keeps ready

pub go-requires : goal.go-requires
go-requires g c = (
  omega arith,
  (
    let r = c.requires.stands in let first = r.1 in
        let m = c.in-Move.ensures in
        (r.0, first, r.2, r.3, r.4, r.5, r.6, (m.0, is_next first c.args.self.now r.2 (ask (a_move m.0)) r.4 m.1)),
    (
      search rules,
      search rules,
    ),
  ),
)

pub returns-in-Move-clause-goes_on : goal.returns-in-Move-clause-goes_on
returns-in-Move-clause-goes_on g c = λ rest first h stands keeps ready goes needs.
    let m = c.in-Move.ensures in
    c.go.ensures.goes_on rest first h stands keeps ready goes (m.0, is_next first c.args.self.now h (ask (a_move m.0)) keeps m.1)

pub pause-requires : goal.pause-requires
pause-requires g c = (
  omega arith,
  (
    let r = c.requires.stands in let first = r.1 in
        let next = is_next first c.args.self.now r.2 pause r.4 c.in-Pause.ensures in
        (first, r.2, r.4, r.5, (r.7 (ap awaits_motion next)).0, next),
    (
      search rules,
      search rules,
    ),
  ),
)

pub returns-in-Pause-clause-goes_on : goal.returns-in-Pause-clause-goes_on
returns-in-Pause-clause-goes_on g c = λ rest first h stands keeps ready goes needs.
    let next = is_next first c.args.self.now h pause keeps c.in-Pause.ensures in
    let n = c.pause.ensures.goes_on first h keeps ready (needs (ap awaits_motion next)).0 next in
    (n.0, rw n.1 stands, subst (λ (f : Flags). BoardWorked first c.pause.result f c.pause.new.self h n.0) (sym c.requires.flags) n.2)
