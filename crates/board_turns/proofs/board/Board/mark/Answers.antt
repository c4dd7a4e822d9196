use Rattle.std.proofs.Common.{arith, rules, [], ◌∷◌, refl, sym, subst, inl}
use Rattle.run_rules.specs.Work.Task.{ask}
use Rattle.step_line.specs.Asking.Asked.{a_mark}
use Rattle.step_line.specs.declared.Piece.TheVariants as pieces
use Rattle.planner_runs.specs.declared.Action.TheVariants.{Mark}
use Rattle.board_journal.specs.Steps.{left_of, hand_of, plan_of, motion_of, given_of}
use Rattle.board_rules.proofs.Facts.{none_asked}
use Rattle.board_journal.specs.Steps.Step.{did}
use Rattle.board_machine.specs.Machines.{Runs}
use Rattle.board_rules.proofs.Marks.{mark_at_rest}
use Rattle.board_turns.proofs.Standing.{hand_none, hand_some}
use Rattle.board_turns.proofs.Steps.{is_next, few_ticks, marked}
use Rattle.board_turns.proofs.Ends.{may_run, works_passed}
use Rattle.board_rules.proofs.Tries.{passes_did}
use Rattle.board_turns.proofs.Nexts.{may_run_marked, none_behind}
use Rattle.board_turns.proofs.board.Board.mark.Goals as goal

pub run-requires : goal.run-requires
run-requires g c = (
  omega arith,
  (
    let r = c.requires.stands in let first = r.1 in
        let s = c.args.self.now in
        let next = is_next first s r.2 (ask (a_mark c.args.mark)) r.4 c.requires.next in
        (r.0, first, r.2, r.3, r.4, may_run first r.2 r.5 (none_asked (left_of first r.2) (a_mark c.args.mark) next), inl (hand_some first s r.2 r.4 (sym c.if-is_some.ensures))),
    (
      search rules,
      search rules,
    ),
  ),
)

pub returns-then-is_some-clause-goes_on : goal.returns-then-is_some-clause-goes_on
returns-then-is_some-clause-goes_on g c = λ rest first h stands keeps ready.
    let s = c.args.self.now in
    let next = is_next first s h (ask (a_mark c.args.mark)) keeps c.requires.next in
    c.run.ensures.goes_on rest first h stands keeps (may_run first h ready (none_asked (left_of first h) (a_mark c.args.mark) next)) (inl (hand_some first s h keeps (sym c.if-is_some.ensures)))

pub put_mark-requires : goal.put_mark-requires
put_mark-requires g c =
    let r = c.requires.stands in let first = r.1 in (
      omega arith,
      few_ticks first c.args.self.now r.2 r.4,
    )

pub run-requires-2 : goal.run-requires-2
run-requires-2 g c = (
  omega arith,
  (
    let r = c.requires.stands in let first = r.1 in
        let s = c.args.self.now in
        let m = c.args.mark in
        let next = is_next first s r.2 (ask (a_mark m)) r.4 c.requires.next in
        let empty = hand_none first s r.2 r.4 (sym c.if-is_some.ensures) in
        let runs = c.put_mark.ensures (plan_of r.2) (motion_of first r.2) (given_of r.2) (subst (λ hand. Runs s.machine (plan_of r.2) (motion_of first r.2) hand (given_of r.2)) empty r.4.machine) in (
          r.0,
          first,
          did (Mark m) (pieces.Mark m ∷ []) ∷ r.2,
          r.3,
          marked first s _ _ m r.2 r.4 next c.requires.mark empty (mark_at_rest first r.2 m r.4.conducted next) runs c.done.ensures,
          may_run_marked first r.2 m (pieces.Mark m ∷ []) r.4.conducted r.5 next,
          inl (none_behind (hand_of r.2) (pieces.Mark m)),
        ),
    (
      search rules,
      search rules,
    ),
  ),
)

pub returns-clause-goes_on : goal.returns-clause-goes_on
returns-clause-goes_on g c = λ rest first h stands keeps ready.
    let s = c.args.self.now in
    let m = c.args.mark in
    let next = is_next first s h (ask (a_mark m)) keeps c.requires.next in
    let empty = hand_none first s h keeps (sym c.if-is_some.ensures) in
    let runs = c.put_mark.ensures (plan_of h) (motion_of first h) (given_of h) (subst (λ hand. Runs s.machine (plan_of h) (motion_of first h) hand (given_of h)) empty keeps.machine) in
    let mid = did (Mark m) (pieces.Mark m ∷ []) ∷ h in
    let now = marked first s _ _ m h keeps next c.requires.mark empty (mark_at_rest first h m keeps.conducted next) runs c.done.ensures in
    let may = may_run_marked first h m (pieces.Mark m ∷ []) keeps.conducted ready next in
    works_passed first (g.P.EpochPort.stands c.run-2.new.port rest first) c.run-2.result _ _ h mid (passes_did first (Mark m) (pieces.Mark m ∷ []) h refl)
    (c.run-2.ensures.goes_on rest first mid stands now may (inl (none_behind (hand_of h) (pieces.Mark m))))
