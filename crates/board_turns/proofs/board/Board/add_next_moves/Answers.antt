use Rattle.std.proofs.Common.{arith, rules, [], ◌∷◌, ap, sym, ◌∙◌}
use Rattle.planner_runs.specs.declared.Action.TheVariants.{Add}
use Rattle.board_journal.specs.Steps.{hand_of, given_of, motion_of, plan_of}
use Rattle.board_journal.specs.Steps.Step.{did}
use Rattle.board_turns.specs.declared.board.Board.{Board}
use Rattle.board_turns.proofs.Steps.{in_range, same_overrides, is_next, added_move}
use Rattle.board_turns.proofs.Adding.{adds_one, has_added, none_fits_full, none_fits_other, has_room_now}
use Rattle.board_turns.proofs.board.Board.add_next_moves.Goals as goal

pub returns-then-is_full-clause-added : goal.returns-then-is_full-clause-added
returns-then-is_full-clause-added g c first h k =
    let n = c.loop-self.invariant.0 first h k in
    (n.0, n.1, has_added first h n.0 n.2 (none_fits_full first c.loop-self.self n.0 n.1 (sym c.is_full.ensures ∙ c.if-is_full.true)))

pub add-requires : goal.add-requires
add-requires g c = (
  omega arith,
  (
    search rules,
    (
      search rules,
      (
        let r = c.requires in let first = r.0 in let n = c.loop-self.invariant.0 first r.1 r.2 in in_range first c.loop-self.self n.0 n.1,
        let r = c.requires in let first = r.0 in let n = c.loop-self.invariant.0 first r.1 r.2 in same_overrides first c.loop-self.self n.0 n.1,
      ),
    ),
  ),
)

pub loop-self-preserved : goal.loop-self-preserved
loop-self-preserved g c = (
  λ first h k.
      let n = c.loop-self.invariant.0 first h k in let m = c.planned_move.result in let s = c.loop-self.self in
      let next = is_next first s n.0 _ n.1 c.planned_move.ensures.next in (
        did (Add m) [] ∷ n.0,
        added_move first s _ _ m n.0 n.1 next c.planned_move.ensures.planned (has_room_now first s n.0 n.1 (sym c.is_full.ensures ∙ c.if-is_full.false))
            (c.add.ensures (plan_of n.0) (motion_of first n.0) (hand_of n.0) (given_of n.0) n.1.machine) c.done.ensures,
        adds_one first m h n.0 n.2 next,
      ),
  ap (λ (x : Board _). record x { machine = c.add.new.self; lines = c.done.new.self }) c.loop-self.invariant.1,
)

pub returns : goal.returns
returns g c = record {
  added = λ first h k. let n = c.loop-self.invariant.0 first h k in (n.0, n.1, has_added first h n.0 n.2 (none_fits_other first c.loop-self.self n.0 c.todo.result n.1 c.todo.ensures c.in_default.not-Move));
  same = c.loop-self.invariant.1;
}
