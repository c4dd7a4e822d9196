-- What comes of a machine that has stopped: it is held, or in alarm, or its jogs are cut, or it stands.
use Rattle.std.proofs.Common.{◌≡◌, ℕ, ◌+◌, ◌-◌, ◌⊎◌, inl, inr, Bool, true, false, not, ◌&&◌, List, [], ◌∷◌, ◌++◌, length, drop, refl, sym, ap, ◌∙◌, subst, arith, append-nil, take}
use Rattle.feed_hold.specs.declared.Motion.{Motion}
use Rattle.feed_hold.specs.declared.Motion.TheVariants as motions
use Rattle.feed_hold.specs.Motions.{after, is_stopping}
use Rattle.feed_hold.specs.Motions.Call.{on_stopped}
use Rattle.std.specs.List.{flat_map}
use Rattle.std.proofs.Math.Seq.{take-append_seam}
use Rattle.flight.specs.Places.{moved_by, end_from, machine_from}
use Rattle.step_line.specs.declared.Record.{Record}
use Rattle.step_line.specs.Finishing.{ticks_together}
use Rattle.step_line.specs.Pieces.{ticks_of}
use Rattle.modal_state.specs.Modes.{rebased}
use Rattle.planner_runs.specs.Runs.{cleared}
use Rattle.units.specs.declared.Steps3.{Steps3}
use Rattle.step_line.specs.Asking.Asked.{a_move}
use Rattle.step_line.specs.declared.Mark.TheVariants as marks
use Rattle.step_line.specs.declared.Piece.{Piece}
use Rattle.step_line.specs.declared.Piece.TheVariants as pieces
use Rattle.step_line.specs.declared.planned_move.PlannedMove.{PlannedMove}
use Rattle.run_rules.specs.declared.State.{State}
use Rattle.run_rules.specs.Work.{Task, asks}
use Rattle.run_rules.specs.Work.Task.{ask, tell, pause, normal, finish, halt}
use Rattle.line_interpreter.specs.Interpreting.{Interpreting}
use Rattle.line_interpreter.specs.Lefts.{IsTodo}
use Rattle.line_interpreter.specs.declared.tasks.Todo.{Todo}
use Rattle.line_interpreter.specs.declared.tasks.Todo.TheVariants as todo
use Rattle.board_journal.specs.Openings.{Opening}
use Rattle.board_journal.specs.Steps.{Journal, has_limited, outcomes_of, given_of, published_of, known_of, before_of, left_of, without_asks, hand_of, plan_of, motion_of}
use Rattle.board_journal.specs.Steps.Step.{became, cut}
use Rattle.board_rules.specs.Cuts.{has_cut}
use Rattle.board_rules.specs.Conduct.{Conducted, IsLocked, IsStopped}
use Rattle.board_rules.proofs.Jogging.{OneMove, one_move, cancel_is_jog}
use Rattle.board_rules.proofs.Keeping.{hand_is}
use Rattle.board_rules.proofs.Limits.{lines_in_bytes}
use Rattle.board_turns.specs.declared.board.Board.{Board}
use Rattle.board_machine.specs.declared.machine.Machine.{Machine}
use Rattle.board_machine.specs.Machines.{Runs}
use Rattle.board_turns.specs.Boards.{Keeps}
use Rattle.board_turns.specs.Turning.{IsFoundStopped, IsUncut, ComesOf}
use Rattle.board_turns.specs.Turning.ComesOf.{is_held, is_cut, is_locked, is_idle}
use Rattle.board_turns.proofs.Known.{calm_now}
use Rattle.board_rules.specs.Turns.{is_limited, is_locked as is_locked_now}
use Rattle.board_rules.proofs.Alarms.{limited_alarmed}
use Rattle.board_rules.proofs.Uncut.{none_asked, uncut_else}
use Rattle.board_rules.proofs.CutMarks.{known_where_stopped}
use Rattle.board_rules.proofs.Facts.{number_is}

-- a machine that slowed down is held where each tick is done
pub stops : {N : ℕ} (first : Opening) (c : Board N) (m : Machine N) (h : Journal) → Keeps first c h → motion_of first h ≡ motions.Holding → IsStopped first h → Runs m (plan_of h) motions.Held (hand_of h) (given_of h)
    → Keeps first (record c { machine = m }) (became on_stopped motions.Held ∷ h)
stops first c m h k slows stopped runs = record {
  placed = k.placed;
  sized = k.sized;
  short = k.short;
  conducted = ((ap (λ now. after on_stopped now) slows, record { stopped = stopped; cut_is = λ e. absurd (other e); load = λ e. absurd (other e) }), k.conducted);
  machine = runs;
  lines = k.lines;
  input = k.input;
  flight = record { known = k.flight.known; found = k.flight.found; flies = k.flight.flies };
  owes_is = k.owes_is;
  resetting_is = k.resetting_is;
  taken_is = k.taken_is;
  answered_is = k.answered_is;
  greeted_is = k.greeted_is;
  prompt = (record { further = λ e. refl; waits = k.unready }, k.prompt);
  unready = λ may. absurd (let e = may.between in cc);
  jogged_is = k.jogged_is;
  cut_is = k.cut_is ∙ uncut_else first h k.conducted other;
  going = k.going;
  closed = k.closed;
  limited = k.limited;
  alarmed_is = k.alarmed_is;
  unlocked = refl;
  tries = k.tries;
}
  where
    other : motion_of first h ≡ motions.Cancelling → ⊥
    other e = let f = sym slows ∙ e in absurd cc

-- a machine slows down to a stop for a limit only where a line has raised an alarm
stopping_alarmed : (first : Opening) (h : Journal) → Conducted first h → motion_of first h ≡ motions.Stopping → has_limited h ≡ true
stopping_alarmed first h c slows = by_cause (limited_alarmed first h c (ap is_limited slows))
  where
    by_cause : (has_limited h ≡ true) ⊎ IsLocked first h → has_limited h ≡ true
    by_cause (inl one) = one
    by_cause (inr locked) = absurd (let e = sym slows ∙ locked.1 in cc)

alarmed_awaits_none : (a b : Bool) → b ≡ true → (not a && not b) ≡ false
alarmed_awaits_none true b one = refl
alarmed_awaits_none false b one = ap not one

-- it is in alarm where a soft limit has stopped it
pub locks : {N : ℕ} (first : Opening) (c : Board N) (m : Machine N) (h : Journal) → Keeps first c h → motion_of first h ≡ motions.Stopping → IsStopped first h → Runs m (plan_of h) motions.Alarm (hand_of h) (given_of h)
    → Keeps first (record c { machine = m }) (became on_stopped motions.Alarm ∷ h)
locks first c m h k slows stopped runs = record {
  placed = k.placed;
  sized = k.sized;
  short = k.short;
  conducted = ((ap (λ now. after on_stopped now) slows, record { stopped = stopped; cut_is = λ e. absurd (other e); load = λ e. absurd (other e) }), k.conducted);
  machine = runs;
  lines = k.lines;
  input = k.input;
  flight = record { known = k.flight.known; found = k.flight.found; flies = k.flight.flies };
  owes_is = k.owes_is;
  resetting_is = k.resetting_is;
  taken_is = k.taken_is;
  answered_is = k.answered_is;
  greeted_is = k.greeted_is;
  prompt = (record { further = λ e. refl; waits = k.unready }, k.prompt);
  unready = λ may. absurd (let e = may.between in cc);
  jogged_is = k.jogged_is;
  cut_is = k.cut_is ∙ uncut_else first h k.conducted other;
  going = k.going;
  closed = k.closed;
  limited = k.limited;
  alarmed_is = k.alarmed_is;
  unlocked = alarmed_awaits_none (is_locked_now first h) (has_limited h) (stopping_alarmed first h k.conducted slows);
  tries = k.tries;
}
  where
    other : motion_of first h ≡ motions.Cancelling → ⊥
    other e = let f = sym slows ∙ e in absurd cc

-- jogs that were cancelled were cut, and the machine stands
pub cancel_over : {N : ℕ} (first : Opening) (c : Board N) (m : Machine N) (h : Journal) → Keeps first c h → motion_of first h ≡ motions.Cancelling → has_cut h ≡ true → IsFoundStopped first c.flight h → Runs m (plan_of h) motions.Idle (hand_of h) (given_of h)
    → Keeps first (record c { machine = m; cut = false }) (became on_stopped motions.Idle ∷ h)
cancel_over first c m h k cancelled was found runs = record {
  placed = k.placed;
  sized = k.sized;
  short = k.short;
  conducted = ((ap (λ now. after on_stopped now) cancelled, record { stopped = found.stopped; cut_is = λ e. was; load = λ e. found.load }), k.conducted);
  machine = runs;
  lines = k.lines;
  input = k.input;
  flight = record { known = k.flight.known; found = k.flight.found; flies = k.flight.flies };
  owes_is = k.owes_is;
  resetting_is = k.resetting_is;
  taken_is = k.taken_is;
  answered_is = k.answered_is;
  greeted_is = k.greeted_is;
  prompt = (record { further = λ e. refl; waits = k.unready }, k.prompt);
  unready = λ may. absurd (let e = may.between in cc);
  jogged_is = k.jogged_is;
  cut_is = refl;
  going = k.going;
  closed = k.closed;
  limited = k.limited;
  alarmed_is = k.alarmed_is;
  unlocked = refl;
  tries = k.tries;
}

-- ---- what is left of a jog

nothing_dropped : (ts : List Task) → asks ts ≡ [] → without_asks ts ≡ ts
nothing_dropped [] none = refl
nothing_dropped (ask a ∷ ts) none = absurd cc
nothing_dropped (tell r ∷ ts) none = ap (λ (us : List Task). tell r ∷ us) (nothing_dropped ts none)
nothing_dropped (pause ∷ ts) none = ap (λ (us : List Task). pause ∷ us) (nothing_dropped ts none)
nothing_dropped (normal ∷ ts) none = ap (λ (us : List Task). normal ∷ us) (nothing_dropped ts none)
nothing_dropped (finish ∷ ts) none = ap (λ (us : List Task). finish ∷ us) (nothing_dropped ts none)
nothing_dropped (halt ∷ ts) none = ap (λ (us : List Task). halt ∷ us) (nothing_dropped ts none)

-- where a move is next, nothing else is asked for
move_dropped : (ts : List Task) (m : PlannedMove) → OneMove ts → ts ≡ ask (a_move m) ∷ drop 1 ts → drop 1 ts ≡ without_asks ts
move_dropped ts m (inl none) next = absurd (none_asked ts (a_move m) none next)
move_dropped ts m (inr (n, is, none)) next = sym (ap without_asks next ∙ nothing_dropped (drop 1 ts) none)

not_next : (t : Todo) (ts : List Task) (m : PlannedMove) → (t ≡ todo.Move → ⊥) → ts ≡ ask (a_move m) ∷ drop 1 ts → IsTodo t ts → ⊥
not_next todo.Move ts m other next is = other refl
not_next todo.Nothing ts m other next is = absurd (let e = sym is ∙ next in cc)
not_next todo.Rest ts m other next is = absurd (let e = sym is ∙ next in cc)
not_next (todo.Mark mark) ts m other next is = absurd (let e = sym is.0 ∙ next in cc)
not_next todo.Tell ts m other next is = absurd (let e = sym is.1 ∙ next in cc)
not_next todo.Pause ts m other next is = absurd (let e = sym is ∙ next in cc)
not_next todo.Normal ts m other next is = absurd (let e = sym is ∙ next in cc)
not_next todo.Finish ts m other next is = absurd (let e = sym is ∙ next in cc)
not_next todo.Halt ts m other next is = absurd (let e = sym is ∙ next in cc)

-- where none is next, nothing is asked for
none_dropped : (t : Todo) (ts : List Task) → OneMove ts → (t ≡ todo.Move → ⊥) → IsTodo t ts → ts ≡ without_asks ts
none_dropped t ts (inl none) other is = sym (nothing_dropped ts none)
none_dropped t ts (inr (m, next, none)) other is = absurd (not_next t ts m other next is)

one_move_left : {N : ℕ} (first : Opening) (c : Board N) (h : Journal) → Keeps first c h → motion_of first h ≡ motions.Cancelling → OneMove c.lines.left
one_move_left first c h k cancelled = subst OneMove (sym k.lines.left_is) (one_move first h k.conducted (cancel_is_jog first h k.conducted cancelled))

pub dropped_next : {N : ℕ} (first : Opening) (c : Board N) (h : Journal) → Keeps first c h → motion_of first h ≡ motions.Cancelling → IsTodo todo.Move c.lines.left → drop 1 c.lines.left ≡ without_asks (left_of first h)
dropped_next first c h k cancelled is = move_dropped c.lines.left is.0 (one_move_left first c h k cancelled) is.1 ∙ ap without_asks k.lines.left_is

pub dropped_none : {N : ℕ} (first : Opening) (c : Board N) (t : Todo) (h : Journal) → Keeps first c h → motion_of first h ≡ motions.Cancelling → (t ≡ todo.Move → ⊥) → IsTodo t c.lines.left → c.lines.left ≡ without_asks (left_of first h)
dropped_none first c t h k cancelled other is = none_dropped t c.lines.left (one_move_left first c h k cancelled) other is ∙ ap without_asks k.lines.left_is

-- ---- the cut

ends_at : (place : Steps3) (ps : List Piece) → machine_from place ps (ticks_together ps) ≡ end_from place ps
ends_at place ps =
    ap (λ (rs : List Record). moved_by place (take (ticks_together ps) rs)) (sym (append-nil (flat_map ticks_of ps))) ∙ ap (moved_by place) (take-append_seam (flat_map ticks_of ps) [])

-- the place where the machine has stopped is where all pieces lead that were given
pub place_is : {N : ℕ} (first : Opening) (c : Board N) (h : Journal) → Keeps first c h → IsFoundStopped first c.flight h → machine_from first.place (published_of h) (known_of h) ≡ end_from first.place (given_of h)
place_is first c h k found =
    let all : given_of h ≡ published_of h = hand_is first h k.conducted ∙ ap (λ (ps : List Piece). published_of h ++ ps) found.stopped.slowed.empty ∙ append-nil (published_of h) in
    ap (machine_from first.place (published_of h)) (known_where_stopped first h k.conducted found.stopped) ∙ ends_at first.place (published_of h) ∙ ap (end_from first.place) (sym all)

-- the interpreter's next number less one
pub cut_number : {N : ℕ} (first : Opening) (c : Board N) (h : Journal) → Keeps first c h → c.lines.number ≡ first.lines + length (outcomes_of h) + 1
cut_number first c h k = k.lines.number_is ∙ number_is first h k.conducted

pub less_one : (n : ℕ) {m : ℕ} → n ≡ m + 1 → n - 1 ≡ m
less_one n is = omega (arith, is)

pub cut_made : {N : ℕ} (first : Opening) (c : Board N) (m : Machine N) (i : Interpreting) (k : ℕ) (at : Steps3) (h : Journal) (keeps : Keeps first c h) → IsUncut first h → IsFoundStopped first c.flight h → k ≡ first.lines + length (outcomes_of h)
    → at ≡ machine_from first.place (published_of h) (known_of h) → i.left ≡ without_asks (left_of first h) → i.number ≡ c.lines.number
    → i.state ≡ record c.lines.state { parser = rebased c.lines.state.parser at c.lines.state.settings.limits.per_mm }
    → Runs m (cleared (plan_of h)) (motion_of first h) (pieces.Mark (marks.Cut k) ∷ []) (given_of h ++ pieces.Mark (marks.Cut k) ∷ [])
    → Keeps first (record c { machine = m; lines = i; cut = true }) (cut k ∷ h)
cut_made first c m i k at h keeps uncut found number place left same state runs = record {
  placed = keeps.placed;
  sized = keeps.sized;
  short = keeps.short;
  conducted = (
    record {
      calm = calm_now first c h keeps (ap is_limited uncut.cancelled);
      cancelled = uncut.cancelled;
      uncut = uncut.uncut;
      stopped = found.stopped;
      load = found.load;
      number = number;
      mark = (let few = lines_in_bytes first h keeps.conducted in let short = keeps.short in omega (arith, few, short, number));
    },
    keeps.conducted,
  );
  machine = rw found.stopped.slowed.empty runs;
  lines = record {
    left_is = left;
    state_is = state ∙ ap (λ (s : State). record s { parser = rebased s.parser at s.settings.limits.per_mm }) keeps.lines.state_is ∙ there;
    number_is = same ∙ keeps.lines.number_is;
  };
  input = keeps.input;
  flight = record { known = keeps.flight.known; found = keeps.flight.found; flies = keeps.flight.flies };
  owes_is = keeps.owes_is;
  resetting_is = keeps.resetting_is;
  taken_is = keeps.taken_is;
  answered_is = keeps.answered_is;
  greeted_is = keeps.greeted_is;
  prompt = (record { further = λ e. refl; waits = keeps.unready }, keeps.prompt);
  unready = λ may. absurd (let e = may.between in cc);
  jogged_is = keeps.jogged_is;
  cut_is = refl;
  going = keeps.going;
  closed = keeps.closed;
  limited = keeps.limited;
  alarmed_is = keeps.alarmed_is;
  unlocked = keeps.unlocked;
  tries = keeps.tries;
}
  where
    b : State
    b = (before_of first h).state

    there : record (before_of first h).state { parser = rebased (before_of first h).state.parser at (before_of first h).state.settings.limits.per_mm }
        ≡ record (before_of first h).state { parser = rebased (before_of first h).state.parser (end_from first.place (given_of h)) (before_of first h).state.settings.limits.per_mm }
    there = ap (λ (x : Steps3). record b { parser = rebased b.parser x b.settings.limits.per_mm }) (place ∙ place_is first c h keeps found)

-- a board that has dropped the move that was next
pub cut_behind : {N : ℕ} (first : Opening) (c d : Board N) (m : Machine N) (i : Interpreting) (k : ℕ) (at : Steps3) (h : Journal) → Keeps first c h → IsUncut first h → IsFoundStopped first c.flight h
    → d ≡ record c { lines = record c.lines { left = d.lines.left } } → k ≡ first.lines + length (outcomes_of h)
    → at ≡ machine_from first.place (published_of h) (known_of h) → i.left ≡ without_asks (left_of first h) → i.number ≡ c.lines.number
    → i.state ≡ record c.lines.state { parser = rebased c.lines.state.parser at c.lines.state.settings.limits.per_mm }
    → Runs m (cleared (plan_of h)) (motion_of first h) (pieces.Mark (marks.Cut k) ∷ []) (given_of h ++ pieces.Mark (marks.Cut k) ∷ [])
    → Keeps first (record d { machine = m; lines = i; cut = true }) (cut (first.lines + length (outcomes_of h)) ∷ h)
cut_behind first c d m i k at h keeps uncut found is number place left same state runs =
    subst (λ (n : ℕ). Keeps first (record d { machine = m; lines = i; cut = true }) (cut n ∷ h)) number
    (subst (λ (x : Board _). Keeps first (record x { machine = m; lines = i; cut = true }) (cut k ∷ h)) (sym is) (cut_made first c m i k at h keeps uncut found number place left same state runs))

-- ---- what comes of it

-- a machine that has stopped, for no soft limit, and whose jogs were not cancelled, was to be held
holding_by : (m : Motion) → is_stopping m ≡ true → is_limited m ≡ false → (m ≡ motions.Cancelling → ⊥) → m ≡ motions.Holding
holding_by motions.Holding slows none other = refl
holding_by motions.Cancelling slows none other = absurd (other refl)
holding_by motions.Stopping slows none other = absurd cc
holding_by m slows none other = absurd cc

pub was_holding : {N : ℕ} (first : Opening) (c : Board N) (h : Journal) → Keeps first c h → IsStopped first h → is_limited c.machine.hold.motion ≡ false → (c.machine.hold.motion ≡ motions.Cancelling → ⊥) → motion_of first h ≡ motions.Holding
was_holding first c h k stopped none other =
    holding_by (motion_of first h) stopped.slowed.slows (ap is_limited (sym k.machine.motion_is) ∙ none) (λ cancelled. other (k.machine.motion_is ∙ cancelled))

-- and one that a soft limit stops slowed down for that
stopping_by : (m : Motion) → is_stopping m ≡ true → is_limited m ≡ true → m ≡ motions.Stopping
stopping_by motions.Stopping slows is = refl
stopping_by motions.Alarm slows is = absurd cc
stopping_by m slows is = absurd cc

pub was_stopping : {N : ℕ} (first : Opening) (c : Board N) (h : Journal) → Keeps first c h → IsStopped first h → is_limited c.machine.hold.motion ≡ true → motion_of first h ≡ motions.Stopping
was_stopping first c h k stopped is = stopping_by (motion_of first h) stopped.slowed.slows (ap is_limited (sym k.machine.motion_is) ∙ is)

-- behind a journal something has come of it
abbrev pub Comes : {N : ℕ} → Opening → Board N → Journal → Type 0
Comes first c h = (next : Journal) × Keeps first c next × ComesOf first h next

pub comes_held : {N : ℕ} (first : Opening) (c : Board N) (m : Machine N) (h : Journal) → Keeps first c h → IsFoundStopped first c.flight h → motion_of first h ≡ motions.Holding → Runs m (plan_of h) motions.Held (hand_of h) (given_of h) → Comes first (record c { machine = m }) h
comes_held first c m h k found slows runs = (became on_stopped motions.Held ∷ h, stops first c m h k slows found.stopped runs, is_held slows refl)

pub comes_locked : {N : ℕ} (first : Opening) (c : Board N) (m : Machine N) (h : Journal) → Keeps first c h → IsFoundStopped first c.flight h → motion_of first h ≡ motions.Stopping → Runs m (plan_of h) motions.Alarm (hand_of h) (given_of h) → Comes first (record c { machine = m }) h
comes_locked first c m h k found slows runs = (became on_stopped motions.Alarm ∷ h, locks first c m h k slows found.stopped runs, is_locked slows refl)

pub comes_over : {N : ℕ} (first : Opening) (c : Board N) (m : Machine N) (h : Journal) → Keeps first c h → IsFoundStopped first c.flight h → motion_of first h ≡ motions.Cancelling → c.cut ≡ true → Runs m (plan_of h) motions.Idle (hand_of h) (given_of h) → Comes first (record c { machine = m; cut = false }) h
comes_over first c m h k found cancelled was runs =
    let e = sym k.cut_is ∙ was in (became on_stopped motions.Idle ∷ h, cancel_over first c m h k cancelled e found runs, is_idle cancelled e refl)

pub is_uncut : {N : ℕ} (first : Opening) (c : Board N) (h : Journal) → Keeps first c h → motion_of first h ≡ motions.Cancelling → c.cut ≡ false → IsUncut first h
is_uncut first c h k cancelled none = record { cancelled = cancelled; uncut = sym k.cut_is ∙ none }

pub comes_cut : {N : ℕ} (first : Opening) (c d : Board N) (h : Journal) → IsUncut first h → Keeps first d (cut (first.lines + length (outcomes_of h)) ∷ h) → Comes first d h
comes_cut first c d h uncut keeps = (cut (first.lines + length (outcomes_of h)) ∷ h, keeps, is_cut uncut (first.lines + length (outcomes_of h)) refl)
