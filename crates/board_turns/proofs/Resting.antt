-- Rests that are next are over, and overrides are set to 100 percent, where the machine has stopped.
use Rattle.std.proofs.Common.{ℕ, ◌≡◌, inl, inr, true, List, [], ◌∷◌, drop, sym, refl, ◌∙◌, subst, append-nil}
use Rattle.feed_hold.specs.declared.Motion.{Motion}
use Rattle.step_line.specs.Asking.Asked.{a_move, a_mark, a_rest}
use Rattle.step_line.specs.declared.Piece.{Piece}
use Rattle.plan_rules.specs.Plans.{Planned}
use Rattle.planner_runs.specs.Runs.{normal_overrides}
use Rattle.planner_runs.specs.declared.Action.TheVariants.{Rest}
use Rattle.run_rules.specs.Work.{Task}
use Rattle.run_rules.specs.Work.Task.{ask, tell, pause, normal, finish, halt}
use Rattle.line_interpreter.specs.Interpreting.{Interpreting}
use Rattle.line_interpreter.specs.Lefts.{IsNextOf, IsTodo}
use Rattle.line_interpreter.specs.declared.tasks.Todo.{Todo}
use Rattle.line_interpreter.specs.declared.tasks.Todo.TheVariants as todo
use Rattle.board_journal.specs.Openings.{Opening}
use Rattle.board_journal.specs.Steps.{Journal, given_of, hand_of, plan_of, motion_of}
use Rattle.board_journal.specs.Steps.Step.{did, evened}
use Rattle.board_rules.proofs.Tasks.{none_next, head_is}
use Rattle.board_turns.specs.declared.board.Board.{Board}
use Rattle.board_machine.specs.declared.machine.Machine.{Machine}
use Rattle.board_machine.specs.Machines.{Runs}
use Rattle.board_turns.specs.Boards.{Keeps}
use Rattle.board_turns.specs.Turning.{HasStopped, IsPassed, DidAlone}
use Rattle.board_rules.proofs.Facts.{no_rest_closing, no_normal_closing}
use Rattle.board_turns.proofs.Steps.{is_next, rested, evens}
use Rattle.board_rules.proofs.Tries.{alone_did, alone_even}

still_stopped : (first : Opening) (h : Journal) → HasStopped first h → HasStopped first (did Rest [] ∷ h)
still_stopped first h s = record {
  drained = record {
    plan = s.drained.plan;
    hand = append-nil (hand_of h) ∙ s.drained.hand;
    done = rw (append-nil (given_of h)) s.drained.done;
  };
  stands = s.stands;
}

still_stopped_even : (first : Opening) (h : Journal) → HasStopped first h → HasStopped first (evened ∷ h)
still_stopped_even first h s = record {
  drained = record {
    plan = record { blocks = s.drained.plan.blocks; speed = s.drained.plan.speed };
    hand = s.drained.hand;
    done = s.drained.done;
  };
  stands = s.stands;
}

-- what was done by itself where the machine has stopped, and still has
abbrev pub Passed : {N : ℕ} → Opening → Board N → Journal → Type 0
Passed first board h = (next : Journal) × Keeps first board next × HasStopped first next × DidAlone first h next

-- a rest that is next is over
pub rest_over : {N : ℕ} (first : Opening) (c : Board N) (i : Interpreting) (h : Journal) → Keeps first c h → HasStopped first h → IsNextOf (ask a_rest) c.lines.left → i ≡ record c.lines { left = drop 1 c.lines.left }
    → Passed first (record c { lines = i }) h
rest_over first c i h k stopped is same =
    (did Rest [] ∷ h, rested first c i h k (is_next first c h (ask a_rest) k is) stopped.drained stopped.stands same, still_stopped first h stopped, alone_did first Rest [] h refl)

-- each override is set to 100 percent
pub normal_over : {N : ℕ} (first : Opening) (c : Board N) (m : Machine N) (i : Interpreting) (h : Journal) → Keeps first c h → HasStopped first h → IsNextOf normal c.lines.left
    → ((p : Planned) (now : Motion) (hand given : List Piece) → Runs c.machine p now hand given → Runs m (record p { overrides = normal_overrides }) now hand given)
    → i ≡ record c.lines { left = drop 1 c.lines.left } → Passed first (record c { machine = m; lines = i }) h
normal_over first c m i h k stopped is runs same = (
  evened ∷ h,
  evens first c m i h k (is_next first c h normal k is) stopped.drained stopped.stands (runs (plan_of h) (motion_of first h) (hand_of h) (given_of h) k.machine) same,
  still_stopped_even first h stopped,
  alone_even first h,
)

-- what is next is no rest
pub no_rest : (t : Todo) (left : List Task) → IsTodo t left → (t ≡ todo.Rest → ⊥) → IsNextOf (ask a_rest) left → ⊥
no_rest todo.Nothing left is other next = none_next left (ask a_rest) is next
no_rest todo.Rest left is other next = other refl
no_rest (todo.Mark m) left is other next = absurd (let e = head_is left (ask a_rest) (ask (a_mark m)) _ next is.0 in cc)
no_rest todo.Move left is other next = absurd (let e = head_is left (ask a_rest) (ask (a_move is.0)) _ next is.1 in cc)
no_rest todo.Tell left is other next = absurd (let e = head_is left (ask a_rest) (tell is.0) _ next is.1 in cc)
no_rest todo.Pause left is other next = absurd (let e = head_is left (ask a_rest) pause _ next is in cc)
no_rest todo.Normal left is other next = absurd (let e = head_is left (ask a_rest) normal _ next is in cc)
no_rest todo.Finish left is other next = absurd (let e = head_is left (ask a_rest) finish _ next is in cc)
no_rest todo.Halt left is other next = absurd (let e = head_is left (ask a_rest) halt _ next is in cc)

-- nor sets overrides
pub no_normal : (t : Todo) (left : List Task) → IsTodo t left → (t ≡ todo.Normal → ⊥) → IsNextOf normal left → ⊥
no_normal todo.Nothing left is other next = none_next left normal is next
no_normal todo.Rest left is other next = absurd (let e = head_is left normal (ask a_rest) _ next is in cc)
no_normal (todo.Mark m) left is other next = absurd (let e = head_is left normal (ask (a_mark m)) _ next is.0 in cc)
no_normal todo.Move left is other next = absurd (let e = head_is left normal (ask (a_move is.0)) _ next is.1 in cc)
no_normal todo.Tell left is other next = absurd (let e = head_is left normal (tell is.0) _ next is.1 in cc)
no_normal todo.Pause left is other next = absurd (let e = head_is left normal pause _ next is in cc)
no_normal todo.Normal left is other next = other refl
no_normal todo.Finish left is other next = absurd (let e = head_is left normal finish _ next is in cc)
no_normal todo.Halt left is other next = absurd (let e = head_is left normal halt _ next is in cc)

-- which of them is next
pub rest_next : (t : Todo) (left : List Task) → IsTodo t left → (t ≡ todo.Normal → ⊥) → IsPassed left → IsNextOf (ask a_rest) left
rest_next t left is other (inl next) = next
rest_next t left is other (inr next) = absurd (no_normal t left is other next)

-- a board that closes its run has neither left
pub none_passed : {N : ℕ} (first : Opening) (c : Board N) (h : Journal) → Keeps first c h → c.closing ≡ true → IsPassed c.lines.left → ⊥
none_passed first c h k closing (inl next) = no_rest_closing first h k.conducted (λ none. absurd (let e = sym none ∙ k.closed closing in cc)) (is_next first c h (ask a_rest) k next)
none_passed first c h k closing (inr next) = no_normal_closing first h k.conducted (λ none. absurd (let e = sym none ∙ k.closed closing in cc)) (is_next first c h normal k next)

-- a board whose plan has other overrides, or the same
pub passed_even : {N : ℕ} (first : Opening) (was b : Board N) (m : Machine N) (i : Interpreting) (h : Journal) → Keeps first was h → HasStopped first h → IsNextOf normal was.lines.left
    → ((p : Planned) (now : Motion) (hand given : List Piece) → Runs was.machine p now hand given → Runs m (record p { overrides = normal_overrides }) now hand given)
    → b ≡ record was { machine = m } → i ≡ record b.lines { left = drop 1 b.lines.left } → Passed first (record b { lines = i }) h
passed_even first was b m i h k stopped is runs e same =
    subst (λ (x : Board _). i ≡ record x.lines { left = drop 1 x.lines.left } → Passed first (record x { lines = i }) h) (sym e) (λ s. (normal_over first) was m i h k stopped is runs s) same

pub passed_rest : {N : ℕ} (first : Opening) (was b : Board N) (i : Interpreting) (h : Journal) → Keeps first was h → HasStopped first h → IsNextOf (ask a_rest) was.lines.left
    → b ≡ was → i ≡ record b.lines { left = drop 1 b.lines.left } → Passed first (record b { lines = i }) h
passed_rest first was b i h k stopped is e same =
    subst (λ (x : Board _). i ≡ record x.lines { left = drop 1 x.lines.left } → Passed first (record x { lines = i }) h) (sym e) (λ s. (rest_over first) was i h k stopped is s) same
