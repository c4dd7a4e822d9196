-- One lemma a step of the plan and of the motion: a board keeps on what its fields say of what it has done.
use Rattle.std.proofs.Common.{ℕ, ◌≡◌, ◌⊎◌, inl, inr, List, [], ◌∷◌, ◌++◌, drop, Bool, true, false, not, ◌&&◌, Some, None, sym, refl, ap, ◌∙◌, subst, append-nil}
use Rattle.feed_hold.specs.declared.Motion.{Motion}
use Rattle.feed_hold.specs.declared.Motion.TheVariants as motions
use Rattle.feed_hold.specs.Motions.{after, is_stopping}
use Rattle.feed_hold.specs.Motions.Call.{on_start, on_pause, on_drained}
use Rattle.board_journal.specs.Openings.{Opening}
use Rattle.run_rules.specs.Work.Task.{ask, pause, normal, finish}
use Rattle.step_line.specs.declared.Mark.{Mark as AnyMark}
use Rattle.step_line.specs.declared.Piece.{Piece}
use Rattle.step_line.specs.declared.Piece.TheVariants as pieces
use Rattle.step_line.specs.declared.Segment.{Segment}
use Rattle.step_line.specs.declared.planned_move.PlannedMove.{PlannedMove}
use Rattle.step_line.specs.Records.{IsMark}
use Rattle.step_line.specs.Asking.{IsPlannedMove}
use Rattle.step_line.specs.Asking.Asked.{a_move, a_mark, a_rest}
use Rattle.plan_rules.specs.Plans.{Planned}
use Rattle.plan_rules.specs.Segments.{advanced}
use Rattle.plan_rules.specs.Taking.{IsNext}
use Rattle.plan_rules.specs.declared.Mode.{Mode}
use Rattle.plan_rules.specs.declared.Mode.TheVariants.{Go, Hold}
use Rattle.planner_runs.specs.declared.Action.TheVariants.{Add, Take, Mark, Rest}
use Rattle.planner_runs.specs.Runs.{IsAtRest, with_move, normal_overrides}
use Rattle.planner_runs.proofs.Runs.{fresh_starts}
use Rattle.line_interpreter.specs.Interpreting.{Interpreting}
use Rattle.board_journal.specs.Steps.{Journal, has_limited, closed_tells, given_of, hand_of, plan_of, motion_of}
use Rattle.board_journal.specs.Steps.Step.{did, made_end, evened, paused, became}
use Rattle.board_rules.specs.Cuts.{has_cut}
use Rattle.board_rules.specs.Turns.{is_full, is_due, is_going, stands_still, is_locked, unobeyed_of}
use Rattle.board_rules.specs.Conduct.{MayDo, IsNextTask, IsDrained, MayStart}
pub use Rattle.board_machine.proofs.Machining.{has_room}
use Rattle.board_turns.specs.declared.board.Board.{Board}
use Rattle.board_machine.specs.declared.machine.Machine.{Machine}
use Rattle.board_machine.specs.Machines.{Runs, StandsOrGoes, mode_in, start_motion}
use Rattle.board_turns.specs.Boards.{Keeps}
use Rattle.board_turns.specs.Turning.{HasPiece, starting}
use Rattle.board_rules.proofs.Uncut.{uncut_else, uncut_idle}
use Rattle.board_turns.proofs.Starting.{none_awaited_started, uncut_started}
pub use Rattle.board_turns.proofs.Turns.{closes, ends, other_published, other_flags, other_flight, room_found}
pub use Rattle.board_turns.proofs.Known.{is_next, hand_empty, none_by_test, in_hand, some_in_hand, hand_left, one_in_hand, hand_of_one, due_moves, due_now, at_rest, few_ticks, in_range, same_overrides, may_publish, may_publish_now, may_answer, few_tried, begins_by, halts_by, none_halts, calm_now}
use Rattle.board_turns.proofs.PortSteps.{one_less}

-- ---- the plan
-- a move is added
pub added_move : {N : ℕ} (first : Opening) (c : Board N) (m : Machine N) (i : Interpreting) (mv : PlannedMove) (h : Journal) → Keeps first c h → IsNextTask first (ask (a_move mv)) h → IsPlannedMove mv → is_full first.blocks (plan_of h) ≡ false
    → Runs m (with_move (plan_of h) mv) (motion_of first h) (hand_of h) (given_of h) → i ≡ record c.lines { left = drop 1 c.lines.left }
    → Keeps first (record c { machine = m; lines = i }) (did (Add mv) [] ∷ h)
added_move first c m i mv h k next planned room runs is = record {
  placed = k.placed;
  sized = k.sized;
  short = k.short;
  conducted = ((next, (record { move = planned; room = has_room first.blocks (plan_of h) room }, refl)), k.conducted);
  machine = rw (append-nil (hand_of h), append-nil (given_of h)) runs;
  lines = one_less c i first h k.lines is;
  input = k.input;
  flight = record { known = k.flight.known; found = k.flight.found; flies = k.flight.flies };
  owes_is = k.owes_is;
  resetting_is = k.resetting_is;
  taken_is = k.taken_is;
  answered_is = k.answered_is;
  greeted_is = k.greeted_is;
  prompt = (record { further = λ e. refl; waits = k.unready }, k.prompt);
  unready = λ may. absurd (let e = may.between in cc);
  jogged_is = k.jogged_is;
  cut_is = k.cut_is;
  going = k.going;
  closed = k.closed;
  limited = k.limited;
  alarmed_is = k.alarmed_is;
  unlocked = k.unlocked;
  tries = k.tries;
}

-- a machine that goes does not slow down
going_mode : (m : Motion) → is_going m ≡ true → mode_in m ≡ Go
going_mode motions.Run goes = refl
going_mode motions.Jog goes = refl
going_mode m goes = absurd cc

-- and one that is to stop does
stopping_mode : (m : Motion) → is_stopping m ≡ true → mode_in m ≡ Hold
stopping_mode motions.Holding slows = refl
stopping_mode motions.Cancelling slows = refl
stopping_mode motions.Stopping slows = refl
stopping_mode m slows = absurd cc

may_take : (first : Opening) (h : Journal) → (is_going (motion_of first h) ≡ true) ⊎ (is_stopping (motion_of first h) ≡ true) → hand_of h ≡ [] → unobeyed_of h ≡ [] → MayDo first (Take (mode_in (motion_of first h))) h
may_take first h (inl goes) empty obeyed = subst (λ (mode : Mode). MayDo first (Take mode) h) (sym (going_mode (motion_of first h) goes)) (record { goes = goes; empty = empty; obeyed = obeyed })
may_take first h (inr slows) empty obeyed = subst (λ (mode : Mode). MayDo first (Take mode) h) (sym (stopping_mode (motion_of first h) slows)) (record { slows = slows; empty = empty })

-- a segment is taken: to slow down where the machine is to stop
pub took_segment : {N : ℕ} (first : Opening) (c : Board N) (m : Machine N) (s : Segment) (h : Journal) → Keeps first c h → (is_going (motion_of first h) ≡ true) ⊎ (is_stopping (motion_of first h) ≡ true) → hand_of h ≡ [] → unobeyed_of h ≡ []
    → IsNext (plan_of h) (mode_in (motion_of first h)) s → Runs m (advanced (plan_of h) s.n s.w_out) (motion_of first h) (pieces.Segment s ∷ []) (given_of h ++ pieces.Segment s ∷ [])
    → Keeps first (record c { machine = m }) (did (Take (mode_in (motion_of first h))) (pieces.Segment s ∷ []) ∷ h)
took_segment first c m s h k moves empty obeyed next runs = record {
  placed = k.placed;
  sized = k.sized;
  short = k.short;
  conducted = ((may_take first h moves empty obeyed, (next, refl)), k.conducted);
  machine = rw empty runs;
  lines = k.lines;
  input = k.input;
  flight = record { known = k.flight.known; found = k.flight.found; flies = k.flight.flies };
  owes_is = k.owes_is;
  resetting_is = k.resetting_is;
  taken_is = k.taken_is;
  answered_is = k.answered_is;
  greeted_is = k.greeted_is;
  prompt = (record { further = λ e. refl; waits = k.unready }, k.prompt);
  unready = λ may. absurd (let e = may.between in cc);
  jogged_is = k.jogged_is;
  cut_is = k.cut_is;
  going = k.going;
  closed = k.closed;
  limited = k.limited;
  alarmed_is = k.alarmed_is;
  unlocked = k.unlocked;
  tries = k.tries;
}

-- the segment that is due comes into the empty hand
pub took_next : {N : ℕ} (first : Opening) (c : Board N) (m : Machine N) (h : Journal) → Keeps first c h → HasPiece first h → unobeyed_of h ≡ [] → c.machine.hand ≡ None
    → ((p : Planned) (now : Motion) (given : List Piece) → Runs c.machine p now [] given
    → (s : Segment) × IsNext p (mode_in now) s × Runs m (advanced p s.n s.w_out) now (pieces.Segment s ∷ []) (given ++ pieces.Segment s ∷ []))
    → (s : Segment) × Keeps first (record c { machine = m }) (did (Take (mode_in (motion_of first h))) (pieces.Segment s ∷ []) ∷ h) × (is_due first h ≡ true) × (hand_of h ≡ [])
took_next first c m h k has obeyed none takes =
    let due = due_now first c h k has none in
    let empty = hand_empty first c h k none in
    let t = takes (plan_of h) (motion_of first h) (given_of h) (subst (λ (ps : List Piece). Runs c.machine (plan_of h) (motion_of first h) ps (given_of h)) empty k.machine) in
    (t.0, took_segment first c m t.0 h k (due_moves first c h k due) empty obeyed t.1 t.2, due, empty)

-- a mark is made
pub marked : {N : ℕ} (first : Opening) (c : Board N) (m : Machine N) (i : Interpreting) (mark : AnyMark) (h : Journal) → Keeps first c h → IsNextTask first (ask (a_mark mark)) h → IsMark mark → hand_of h ≡ [] → IsAtRest (plan_of h)
    → Runs m (plan_of h) (motion_of first h) (pieces.Mark mark ∷ []) (given_of h ++ pieces.Mark mark ∷ []) → i ≡ record c.lines { left = drop 1 c.lines.left }
    → Keeps first (record c { machine = m; lines = i }) (did (Mark mark) (pieces.Mark mark ∷ []) ∷ h)
marked first c m i mark h k next good empty rest runs is = record {
  placed = k.placed;
  sized = k.sized;
  short = k.short;
  conducted = ((record { next = next; empty = empty }, (refl, good, rest, refl)), k.conducted);
  machine = rw empty runs;
  lines = one_less c i first h k.lines is;
  input = k.input;
  flight = record { known = k.flight.known; found = k.flight.found; flies = k.flight.flies };
  owes_is = k.owes_is;
  resetting_is = k.resetting_is;
  taken_is = k.taken_is;
  answered_is = k.answered_is;
  greeted_is = k.greeted_is;
  prompt = (record { further = λ e. refl; waits = k.unready }, k.prompt);
  unready = λ may. absurd (let e = may.between in cc);
  jogged_is = k.jogged_is;
  cut_is = k.cut_is;
  going = k.going;
  closed = k.closed;
  limited = k.limited;
  alarmed_is = k.alarmed_is;
  unlocked = k.unlocked;
  tries = k.tries;
}

-- a rest is over
pub rested : {N : ℕ} (first : Opening) (c : Board N) (i : Interpreting) (h : Journal) → Keeps first c h → IsNextTask first (ask a_rest) h → IsDrained h → motion_of first h ≡ motions.Idle → i ≡ record c.lines { left = drop 1 c.lines.left }
    → Keeps first (record c { lines = i }) (did Rest [] ∷ h)
rested first c i h k next drained stands is = record {
  placed = k.placed;
  sized = k.sized;
  short = k.short;
  conducted = ((record { next = next; drained = drained; stands = stands }, (drained.plan, refl)), k.conducted);
  machine = rw (append-nil (hand_of h), append-nil (given_of h)) k.machine;
  lines = one_less c i first h k.lines is;
  input = k.input;
  flight = record { known = k.flight.known; found = k.flight.found; flies = k.flight.flies };
  owes_is = k.owes_is;
  resetting_is = k.resetting_is;
  taken_is = k.taken_is;
  answered_is = k.answered_is;
  greeted_is = k.greeted_is;
  prompt = (record { further = λ e. refl; waits = k.unready }, k.prompt);
  unready = λ may. absurd (let e = may.between in cc);
  jogged_is = k.jogged_is;
  cut_is = k.cut_is;
  going = k.going;
  closed = k.closed;
  limited = k.limited;
  alarmed_is = k.alarmed_is;
  unlocked = k.unlocked;
  tries = k.tries;
}

-- each override is set to 100 percent
pub evens : {N : ℕ} (first : Opening) (c : Board N) (m : Machine N) (i : Interpreting) (h : Journal) → Keeps first c h → IsNextTask first normal h → IsDrained h → motion_of first h ≡ motions.Idle
    → Runs m (record (plan_of h) { overrides = normal_overrides }) (motion_of first h) (hand_of h) (given_of h) → i ≡ record c.lines { left = drop 1 c.lines.left }
    → Keeps first (record c { machine = m; lines = i }) (evened ∷ h)
evens first c m i h k next drained stands runs is = record {
  placed = k.placed;
  sized = k.sized;
  short = k.short;
  conducted = (record { rests = record { next = next; drained = drained; stands = stands }; replans = (fresh_starts.overrides, refl) }, k.conducted);
  machine = runs;
  lines = one_less c i first h k.lines is;
  input = k.input;
  flight = record { known = k.flight.known; found = k.flight.found; flies = k.flight.flies };
  owes_is = k.owes_is;
  resetting_is = k.resetting_is;
  taken_is = k.taken_is;
  answered_is = k.answered_is;
  greeted_is = k.greeted_is;
  prompt = (record { further = λ e. refl; waits = k.unready }, k.prompt);
  unready = λ may. absurd (let e = may.between in cc);
  jogged_is = k.jogged_is;
  cut_is = k.cut_is;
  going = k.going;
  closed = k.closed;
  limited = k.limited;
  alarmed_is = k.alarmed_is;
  unlocked = k.unlocked;
  tries = k.tries;
}

-- the machine is held for a pause
pub held_for_pause : {N : ℕ} (first : Opening) (c : Board N) (m : Machine N) (i : Interpreting) (h : Journal) → Keeps first c h → IsNextTask first pause h → IsDrained h → motion_of first h ≡ motions.Idle
    → Runs m (plan_of h) motions.Held (hand_of h) (given_of h) → i ≡ record c.lines { left = drop 1 c.lines.left } → Keeps first (record c { machine = m; lines = i }) (paused ∷ h)
held_for_pause first c m i h k next drained stands runs is = record {
  placed = k.placed;
  sized = k.sized;
  short = k.short;
  conducted = (record { rests = record { next = next; drained = drained; stands = stands }; held = ap (λ now. after on_pause now) stands }, k.conducted);
  machine = runs;
  lines = one_less c i first h k.lines is;
  input = k.input;
  flight = record { known = k.flight.known; found = k.flight.found; flies = k.flight.flies };
  owes_is = k.owes_is;
  resetting_is = k.resetting_is;
  taken_is = k.taken_is;
  answered_is = k.answered_is;
  greeted_is = k.greeted_is;
  prompt = (record { further = λ e. refl; waits = k.unready }, k.prompt);
  unready = λ may. absurd (let e = may.between in cc);
  jogged_is = k.jogged_is;
  cut_is = k.cut_is ∙ uncut_idle first h k.conducted stands;
  going = k.going;
  closed = k.closed;
  limited = k.limited;
  alarmed_is = k.alarmed_is;
  unlocked = refl;
  tries = k.tries;
}

-- the end is made
pub ended : {N : ℕ} (first : Opening) (c : Board N) (m : Machine N) (i : Interpreting) (h : Journal) → Keeps first c h → IsNextTask first finish h → IsDrained h → stands_still (motion_of first h) ≡ true → (closed_tells h ≡ [] → ⊥)
    → Runs m (plan_of h) (motion_of first h) (pieces.End ∷ []) (given_of h ++ pieces.End ∷ []) → i ≡ record c.lines { left = drop 1 c.lines.left }
    → Keeps first (record c { machine = m; lines = i }) (made_end ∷ h)
ended first c m i h k next drained stands closes runs is = record {
  placed = k.placed;
  sized = k.sized;
  short = k.short;
  conducted = (record { next = next; drained = drained; stands = stands; closes = closes }, k.conducted);
  machine = rw drained.hand runs;
  lines = one_less c i first h k.lines is;
  input = k.input;
  flight = record { known = k.flight.known; found = k.flight.found; flies = k.flight.flies };
  owes_is = k.owes_is;
  resetting_is = k.resetting_is;
  taken_is = k.taken_is;
  answered_is = k.answered_is;
  greeted_is = k.greeted_is;
  prompt = (record { further = λ e. refl; waits = k.unready }, k.prompt);
  unready = λ may. absurd (let e = may.between in cc);
  jogged_is = k.jogged_is;
  cut_is = k.cut_is;
  going = k.going;
  closed = k.closed;
  limited = k.limited;
  alarmed_is = k.alarmed_is;
  unlocked = k.unlocked;
  tries = k.tries;
}

-- ---- the motion
-- the motion of a start
starts_to : (jog : Bool) (now : Motion) → now ≡ motions.Idle → after (on_start jog) now ≡ Some (start_motion jog)
starts_to false now stands = ap (λ m. after (on_start false) m) stands
starts_to true now stands = ap (λ m. after (on_start true) m) stands

-- queued blocks start the cycle, or a jog
pub started : {N : ℕ} (first : Opening) (c : Board N) (m : Machine N) (jog : Bool) (h : Journal) → Keeps first c h → motion_of first h ≡ motions.Idle → MayStart first jog h → Runs m (plan_of h) (start_motion jog) (hand_of h) (given_of h)
    → Keeps first (record c { machine = m }) (starting jog h)
started first c m jog h k stands may runs = record {
  placed = k.placed;
  sized = k.sized;
  short = k.short;
  conducted = ((starts_to jog (motion_of first h) stands, may), k.conducted);
  machine = runs;
  lines = k.lines;
  input = k.input;
  flight = record { known = k.flight.known; found = k.flight.found; flies = k.flight.flies };
  owes_is = k.owes_is;
  resetting_is = k.resetting_is;
  taken_is = k.taken_is;
  answered_is = k.answered_is;
  greeted_is = k.greeted_is;
  prompt = (record { further = λ e. refl; waits = k.unready }, k.prompt);
  unready = λ may. absurd (let e = may.between in cc);
  jogged_is = k.jogged_is;
  cut_is = k.cut_is ∙ uncut_started jog (has_cut h) (uncut_idle first h k.conducted stands);
  going = k.going;
  closed = k.closed;
  limited = k.limited;
  alarmed_is = k.alarmed_is;
  unlocked = none_awaited_started jog (not (is_locked first h) && not (has_limited h));
  tries = k.tries;
}

after_drained : (now : Motion) → StandsOrGoes now → after on_drained now ≡ Some motions.Idle
after_drained now (inl e) = ap (λ m. after on_drained m) e
after_drained now (inr (inl e)) = ap (λ m. after on_drained m) e
after_drained now (inr (inr e)) = ap (λ m. after on_drained m) e

not_cancelled : (now : Motion) → StandsOrGoes now → now ≡ motions.Cancelling → ⊥
not_cancelled now (inl e) is = absurd (let f = sym e ∙ is in cc)
not_cancelled now (inr (inl e)) is = absurd (let f = sym e ∙ is in cc)
not_cancelled now (inr (inr e)) is = absurd (let f = sym e ∙ is in cc)

-- the cycle is over
pub drained : {N : ℕ} (first : Opening) (c : Board N) (m : Machine N) (h : Journal) → Keeps first c h → StandsOrGoes (motion_of first h) → IsDrained h → Runs m (plan_of h) motions.Idle (hand_of h) (given_of h)
    → Keeps first (record c { machine = m }) (became on_drained motions.Idle ∷ h)
drained first c m h k was may runs = record {
  placed = k.placed;
  sized = k.sized;
  short = k.short;
  conducted = ((after_drained (motion_of first h) was, may), k.conducted);
  machine = runs;
  lines = k.lines;
  input = k.input;
  flight = record { known = k.flight.known; found = k.flight.found; flies = k.flight.flies };
  owes_is = k.owes_is;
  resetting_is = k.resetting_is;
  taken_is = k.taken_is;
  answered_is = k.answered_is;
  greeted_is = k.greeted_is;
  prompt = (record { further = λ e. refl; waits = k.unready }, k.prompt);
  unready = λ may. absurd (let e = may.between in cc);
  jogged_is = k.jogged_is;
  cut_is = k.cut_is ∙ uncut_else first h k.conducted (not_cancelled (motion_of first h) was);
  going = k.going;
  closed = k.closed;
  limited = k.limited;
  alarmed_is = k.alarmed_is;
  unlocked = refl;
  tries = k.tries;
}
