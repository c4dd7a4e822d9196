use Rattle.std.proofs.Common.{arith, rules, [], ◌∷◌, ◌++◌, ◌∙◌, sym, ap}
use Rattle.planner_runs.specs.declared.Action.TheVariants.{Take}
use Rattle.step_line.specs.declared.Piece.TheVariants as pieces
use Rattle.board_journal.specs.Steps.{motion_of}
use Rattle.board_journal.specs.Steps.Step.{did}
use Rattle.board_machine.specs.Machines.{mode_in}
use Rattle.board_turns.proofs.Steps.{few_ticks, none_by_test, took_next, one_in_hand, hand_of_one}
use Rattle.board_rules.proofs.Tries.{tried, tried_behind}
use Rattle.board_turns.proofs.board.Board.publish_next.Goals as goal

pub returns-then-is_some-clause-goes_on : goal.returns-then-is_some-clause-goes_on
returns-then-is_some-clause-goes_on g c rest first h stands k has obeyed reported =
    let n = c.publish.ensures.goes_on rest first h stands k obeyed reported in
    (n.0, n.1, n.2, tried first c.publish.result h n.0 (one_in_hand first c.args.self.now h k) n.3)

pub publish-requires : goal.publish-requires
publish-requires g c =
    let r = c.requires.stands in (
      omega arith,
      (
        (r.0, r.1, r.2, r.3, r.4, r.6, r.7),
        search rules,
      ),
    )

pub take-requires : goal.take-requires
take-requires g c = (
  omega arith,
  (
    search rules,
    (
      let r = c.requires.stands in let first = r.1 in few_ticks first c.args.self.now r.2 r.4,
      search rules,
    ),
  ),
)

pub publish-requires-2 : goal.publish-requires-2
publish-requires-2 g c = (
  omega arith,
  (
    let r = c.requires.stands in let first = r.1 in let s = c.args.self.now in
        let t = took_next first s _ r.2 r.4 r.5 r.6 (none_by_test _ (sym c.is_some.ensures ∙ c.if-is_some.false)) c.take.ensures in
        (r.0, first, did (Take (mode_in (motion_of first r.2))) (pieces.Segment t.0 ∷ []) ∷ r.2, r.3, t.1, r.6, r.7),
    let r = c.requires.stands in let first = r.1 in let s = c.args.self.now in
        let t = took_next first s _ r.2 r.4 r.5 r.6 (none_by_test _ (sym c.is_some.ensures ∙ c.if-is_some.false)) c.take.ensures in
        hand_of_one first _ (did (Take (mode_in (motion_of first r.2))) (pieces.Segment t.0 ∷ []) ∷ r.2) (pieces.Segment t.0) t.1 (ap (λ ps. ps ++ pieces.Segment t.0 ∷ []) t.3),
  ),
)

pub returns-clause-goes_on : goal.returns-clause-goes_on
returns-clause-goes_on g c rest first h stands k has obeyed reported =
    let s = c.args.self.now in
    let t = took_next first s _ h k has obeyed (none_by_test _ (sym c.is_some.ensures ∙ c.if-is_some.false)) c.take.ensures in
    let n = c.publish-2.ensures.goes_on rest first (did (Take (mode_in (motion_of first h))) (pieces.Segment t.0 ∷ []) ∷ h) stands t.1 obeyed reported in
    (n.0, n.1, n.2, tried_behind first (mode_in (motion_of first h)) t.0 c.publish-2.result h n.0 t.2 (tried first c.publish-2.result (did (Take (mode_in (motion_of first h))) (pieces.Segment t.0 ∷ []) ∷ h) n.0 (one_in_hand first _ _ t.1) n.3))
