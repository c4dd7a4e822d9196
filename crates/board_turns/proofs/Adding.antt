-- Moves are added to the plan, one by one, and queued blocks are started.
use Rattle.std.proofs.Common.{◌-◌, ℕ, ◌≡◌, ◌⊎◌, inl, inr, Bool, List, [], ◌∷◌, ◌||◌, ◌&&◌, true, false, refl, sym, ap, ◌∙◌, subst, append-nil}
use Rattle.std.specs.List.{list_any}
use Rattle.feed_hold.specs.declared.Motion.TheVariants as motions
use Rattle.feed_hold.specs.Motions.Call.{on_start}
use Rattle.run_rules.specs.Work.{Task}
use Rattle.run_rules.specs.Work.Task.{ask}
use Rattle.step_line.specs.Asking.Asked.{a_move}
use Rattle.step_line.specs.declared.planned_move.PlannedMove.{PlannedMove}
use Rattle.planner_runs.specs.declared.Action.TheVariants.{Add}
use Rattle.board_journal.specs.Openings.{Opening}
use Rattle.board_journal.specs.Steps.{Journal, open_of, whole_of, left_of, hand_of, plan_of, motion_of}
use Rattle.board_journal.specs.Steps.Step.{did}
use Rattle.run_rules.specs.Outcomes.{begins_with_dollar}
use Rattle.board_rules.specs.Turns.{this_turn, moving, found_none, is_full, is_limited, has_blocks, has_jogged, awaits_motion}
use Rattle.board_rules.specs.Conduct.{IsNextTask, AreWaiting, MayStart}
use Rattle.plan_rules.specs.Plans.{Planned}
use Rattle.line_interpreter.specs.Lefts.{IsNextOf, IsTodo}
use Rattle.line_interpreter.specs.declared.tasks.Todo.{Todo}
use Rattle.line_interpreter.specs.declared.tasks.Todo.TheVariants as todo
use Rattle.board_turns.specs.declared.board.Board.{Board}
use Rattle.board_turns.specs.Boards.{Keeps, NoneWaits}
use Rattle.board_machine.specs.Machines.{start_motion}
use Rattle.board_turns.specs.Turning.{IsNextMove, NoneFits, DidAlone, HasAdded, HasFilled, starting}
use Rattle.board_rules.proofs.Tries.{passes_none, alone_did, alone_on, alone_motion}
use Rattle.board_turns.proofs.Starting.{none_left_to_change, starts_off, full_is}
use Rattle.board_turns.proofs.Ends.{same_calls}
use Rattle.board_turns.proofs.Steps.{none_halts}

-- some of the moves that are next were added, or none
pub record Adds (first : Opening) (h next : Journal) : Type 0 where
  pub alone : DidAlone first h next
  pub hand : hand_of next ≡ hand_of h
  pub motion : motion_of first next ≡ motion_of first h
  pub some : (next ≡ h) ⊎ (IsNextMove first h × (list_any moving (this_turn next) ≡ true))

pub adds_none : (first : Opening) (h : Journal) → Adds first h h
adds_none first h = record { alone = record { passes = passes_none first h; port = refl }; hand = refl; motion = refl; some = inl refl }

first_is_next : (first : Opening) (m : PlannedMove) (h mid : Journal) → (mid ≡ h) ⊎ (IsNextMove first h × (list_any moving (this_turn mid) ≡ true)) → IsNextTask first (ask (a_move m)) mid → IsNextMove first h
first_is_next first m h mid (inl e) next = (m, subst (λ j. (IsNextTask first) (ask (a_move m)) j) e next)
first_is_next first m h mid (inr s) next = s.0

pub adds_one : (first : Opening) (m : PlannedMove) (h mid : Journal) → Adds first h mid → IsNextTask first (ask (a_move m)) mid → Adds first h (did (Add m) [] ∷ mid)
adds_one first m h mid a next = record {
  alone = alone_on first h mid (did (Add m) [] ∷ mid) a.alone (alone_did first (Add m) [] mid refl);
  hand = append-nil (hand_of mid) ∙ a.hand;
  motion = a.motion;
  some = inr (first_is_next first m h mid a.some next, refl);
}

moved_by : (first : Opening) (h next : Journal) → (next ≡ h) ⊎ (IsNextMove first h × (list_any moving (this_turn next) ≡ true)) → NoneFits first next → IsNextMove first h → is_full first.blocks (plan_of h) ≡ false → list_any moving (this_turn next) ≡ true
moved_by first h next (inl e) fits move room = absurd (let full = subst (NoneFits first) e fits move.0 move.1 in let x = sym full ∙ room in cc)
moved_by first h next (inr s) fits move room = s.1

none_by : (first : Opening) (h next : Journal) → (next ≡ h) ⊎ (IsNextMove first h × (list_any moving (this_turn next) ≡ true)) → (IsNextMove first h → ⊥) → next ≡ h
none_by first h next (inl e) none = e
none_by first h next (inr s) none = absurd (none s.0)

-- no more of them has room
pub has_added : (first : Opening) (h next : Journal) → Adds first h next → NoneFits first next → HasAdded first h next
has_added first h next a fits = record {
  alone = a.alone;
  hand = a.hand;
  motion = a.motion;
  adds = fits;
  moved = moved_by first h next a.some fits;
  none = none_by first h next a.some;
}

-- a full plan has no room
pub none_fits_full : {N : ℕ} (first : Opening) (c : Board N) (h : Journal) → Keeps first c h → is_full (N - 1) c.machine.plan ≡ true → NoneFits first h
none_fits_full first c h k full m next = sym (full_is first c h k) ∙ full

no_move : (t : Todo) (tasks : List Task) → IsTodo t tasks → (t ≡ todo.Move → ⊥) → (m : PlannedMove) → IsNextOf (ask (a_move m)) tasks → ⊥
no_move todo.Nothing tasks is other m next = absurd cc
no_move todo.Rest tasks is other m next = absurd cc
no_move (todo.Mark mark) tasks is other m next = let e = is.0 in absurd cc
no_move todo.Move tasks is other m next = other refl
no_move todo.Tell tasks is other m next = let e = is.1 in absurd cc
no_move todo.Pause tasks is other m next = absurd cc
no_move todo.Normal tasks is other m next = absurd cc
no_move todo.Finish tasks is other m next = absurd cc
no_move todo.Halt tasks is other m next = absurd cc

-- no move is next
pub none_fits_other : {N : ℕ} (first : Opening) (c : Board N) (h : Journal) (t : Todo) → Keeps first c h → IsTodo t c.lines.left → (t ≡ todo.Move → ⊥) → NoneFits first h
none_fits_other first c h t k is other m next = absurd (no_move t (left_of first h) (subst (IsTodo t) k.lines.left_is is) other m next)

pub has_room_now : {N : ℕ} (first : Opening) (c : Board N) (h : Journal) → Keeps first c h → is_full (N - 1) c.machine.plan ≡ false → is_full first.blocks (plan_of h) ≡ false
has_room_now first c h k room = sym (full_is first c h k) ∙ room

-- ---- queued blocks

-- what calls for a start, by the fields
calls_now : {N : ℕ} (first : Opening) (c : Board N) (h : Journal) → Keeps first c h → (is_full (N - 1) c.machine.plan || (awaits_motion c.lines.left || c.jogged)) ≡ (is_full first.blocks (plan_of h) || (awaits_motion (left_of first h) || has_jogged h))
calls_now {N} first c h k =
    same_calls (is_full (N - 1) c.machine.plan) (is_full first.blocks (plan_of h)) c.lines.left (left_of first h) c.jogged (has_jogged h) (full_is first c h k) k.lines.left_is k.jogged_is

-- none waits where nothing calls for a start
pub none_waits_now : {N : ℕ} (first : Opening) (c : Board N) (h : Journal) → Keeps first c h
    → (c.machine.hold.motion ≡ motions.Idle → has_blocks c.machine.plan.blocks ≡ true → (is_full (N - 1) c.machine.plan || (awaits_motion c.lines.left || c.jogged)) ≡ false) → NoneWaits first h
none_waits_now first c h k none w =
    sym (calls_now first c h k) ∙ none (k.machine.motion_is ∙ w.stands) (ap (λ (p : Planned). has_blocks p.blocks) k.machine.plan_is ∙ w.blocks)

-- a start that the plan, or what is next, calls for
pub may_start : {N : ℕ} (first : Opening) (c : Board N) (h : Journal) → Keeps first c h → motion_of first h ≡ motions.Idle → has_blocks c.machine.plan.blocks ≡ true → (is_full (N - 1) c.machine.plan || (awaits_motion c.lines.left || c.jogged)) ≡ true → MayStart first c.jogged h
may_start first c h k stands blocks called = record {
  goes = none_halts first c h k (ap is_limited stands);
  blocks = subst (λ (p : Planned). has_blocks p.blocks ≡ true) k.machine.plan_is blocks;
  called = calls (list_any found_none (this_turn h)) (is_full first.blocks (plan_of h) || (awaits_motion (left_of first h) || has_jogged h)) (whole_of h && begins_with_dollar (open_of h)) (sym (calls_now first c h k) ∙ called);
  jogs = sym k.jogged_is;
}
  where
    calls : (a b d : Bool) → b ≡ true → ((a || b) || d) ≡ true
    calls true b d e = refl
    calls false true d e = refl
    calls false false d e = absurd cc

-- behind the moves nothing is to be started
pub filled_added : (first : Opening) (h next : Journal) → HasAdded first h next → NoneWaits first next → HasFilled first h next
filled_added first h next a none = record {
  alone = a.alone;
  hand = a.hand;
  adds = a.adds;
  none_waits = none;
  moved = a.moved;
  waiting = λ no w. subst (AreWaiting first) (a.none no) w;
}

-- the cycle starts behind the moves
pub filled_started : (first : Opening) (jog : Bool) (h mid : Journal) → HasAdded first h mid → HasFilled first h (starting jog mid)
filled_started first jog h mid a = record {
  alone = alone_on first h mid (starting jog mid) a.alone (alone_motion first (on_start jog) (start_motion jog) mid refl (none_left_to_change first jog mid));
  hand = a.hand;
  adds = a.adds;
  none_waits = λ w. starts_off jog w.stands;
  moved = λ move room. a.moved move room;
  waiting = λ no w. starts_off jog w.stands;
}
