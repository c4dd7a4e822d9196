-- A line that was taken whole is begun.
use Rattle.std.proofs.Common.{◌≡◌, ℕ, ◌+◌, ◌≤◌, ◌⊎◌, inl, inr, Bool, true, false, not, nat_lt, ◌&&◌, ◌||◌, Some, List, [], ◌∷◌, ◌++◌, sym, refl, ap, ◌∙◌, subst, arith, append_assoc}
use Rattle.std.specs.List.{list_any, count_by}
use Rattle.feed_hold.specs.declared.Motion.{Motion as AnyMotion}
use Rattle.feed_hold.specs.declared.Motion.TheVariants as motions
use Rattle.feed_hold.specs.Motions.{after as after_call}
use Rattle.feed_hold.specs.Motions.Call.{on_start, on_limit, on_unlock}
use Rattle.outside.specs.declared.Turn.TheVariants.{Did}
use Rattle.board_journal.specs.Openings.{Opening}
use Rattle.run_rules.specs.Work.{Task, Outcome, is_limit}
use Rattle.run_rules.specs.Outcomes.{after, jogged_behind, begins_with_dollar}
use Rattle.run_rules.specs.Finding.{Found}
use Rattle.line_interpreter.specs.Interpreting.{Interpreting}
use Rattle.line_interpreter.specs.Lefts.{IsTodo}
use Rattle.line_interpreter.specs.declared.tasks.Todo.{Todo}
use Rattle.line_interpreter.specs.declared.tasks.Todo.TheVariants as todo
use Rattle.board_journal.specs.Steps.{Journal, port_log, has_limited, lines_of, open_of, whole_of, before_of, left_of, given_of, hand_of, plan_of, motion_of}
use Rattle.board_journal.specs.Ports.PortStep.{answered, no_reply_room}
use Rattle.board_journal.specs.Steps.{Step}
use Rattle.board_journal.specs.Steps.Step.{at_port, began, became}
use Rattle.board_rules.specs.Cuts.{has_cut, is_cancelling}
use Rattle.board_rules.proofs.Beginning.{caused, of_begun}
use Rattle.board_rules.specs.Turns.{this_turn, publishing, moving, ends_turn, owes_report, unobeyed_of, flags_taken, found_none, has_blocks, has_jogged, machine_in, tries_of, missed_of, is_due, is_full, awaits_motion, halts_next, is_alarm, is_limited, is_locked, awaits_unlock, begins_in, starts_cycle, is_reply_back, are_many}
use Rattle.board_rules.specs.Conduct.{MayBegin, MayStart, AsksForRoom}
use Rattle.board_turns.specs.declared.board.Board.{Board}
use Rattle.board_machine.specs.declared.machine.Machine.{Machine}
use Rattle.board_turns.specs.declared.board.Flags.{Flags}
use Rattle.board_turns.specs.declared.board.Flags.TheVariants as words
use Rattle.board_turns.specs.Boards.{Keeps, Works, IsFree}
use Rattle.board_machine.specs.Machines.{Runs, limit_motion, start_motion}
use Rattle.board_turns.specs.Turning.{IsReady, IsWholeLine, IsLooked, MayJudge, IsJudged, PassesNothing, DidAlone, HasLooked, HasBegun, HasFilled, BoardWorked, MayHaveTold, starting}
use Rattle.board_turns.specs.Turning.MayHaveTold.{untold, handed_back, was_told}
use Rattle.board_rules.specs.Within.{AreWorked, tries_ahead, ahead}
use Rattle.board_turns.proofs.Starting.{starts_off, starts_to_begin}
use Rattle.board_turns.proofs.Standing.{blocks_undrained}
use Rattle.board_rules.proofs.Polling.{none_told}
use Rattle.board_rules.proofs.Ahead.{ahead_less}
use Rattle.board_rules.proofs.Tries.{IsNoWord, none_ends, worked_behind, publishes_one, publishes_none, takes_back}
use Rattle.board_rules.proofs.Uncut.{uncut_else}
use Rattle.board_rules.proofs.HaltWorks.{HaltsOrNot, line_halts, none_halts_next}
use Rattle.board_rules.proofs.Alarms.{still_locked}
use Rattle.run_rules.specs.Locking.{unlocks}
use Rattle.std.proofs.lemmas.List.Folds.{list_any-append}
use Rattle.board_turns.proofs.Stages.{alarm_stands, told_halts}
use Rattle.board_turns.proofs.Known.{calm_whole}
use Rattle.board_turns.proofs.Ends.{takes_none, did_filled, free_of, free_passed}

-- ---- the rules

or_none : (a b c d : Bool) → a ≡ false → b ≡ false → d ≡ false → ((a || b) || (c && d)) ≡ false
or_none a b true d ea eb ed = cc
or_none a b false d ea eb ed = cc

and_none : (a b : Bool) → a ≡ false → (a && b) ≡ false
and_none a b e = cc

either_true : (a b : Bool) → a ≡ true → (a || b) ≡ true
either_true a b e = cc

-- what was found of a line may become of it
pub may_begin : (first : Opening) (h : Journal) (o : Outcome) → MayJudge first h → has_limited h ≡ false → Found (machine_in (motion_of first h)) (before_of first h) (open_of h) o → MayBegin first o h
may_begin first h o may calm found = record {
  calm = calm;
  free = may.looked.free;
  going = may.looked.going;
  whole = may.looked.whole;
  becomes = found;
  begins = may.looked.begins;
  flags = may.looked.flags;
  obeyed = may.looked.worked.obeyed may.looked.unowed;
  unowed = may.looked.unowed;
  load = may.looked.load;
  idle = may.looked.idle;
  starts = λ waiting. or_none (list_any found_none (this_turn h)) (is_full first.blocks (plan_of h) || (awaits_motion (left_of first h) || has_jogged h)) (whole_of h) (begins_with_dollar (open_of h)) may.looked.unpolled (may.looked.none_waits waiting) (may.starts waiting);
  tried = and_none (missed_of first h) (is_due first h) may.looked.unmissed;
  few = may.looked.tries;
}

-- a line is begun
begins : {N : ℕ} (first : Opening) (was now : Board N) (h : Journal) (o : Outcome) → (j : IsJudged first was now h o) → MayBegin first o h
begins first was now h o j = may_begin first h o j.may (calm_whole first was h j.keeps j.may.looked.whole) j.found

works : {N : ℕ} (first : Opening) (was now : Board N) (h : Journal) (o : Outcome) → (j : IsJudged first was now h o) → Works now.lines o.work (after (before_of first h) o)
works first was now h o j = record {
  left_is = ap (λ (i : Interpreting). i.left) j.is;
  state_is = ap (λ (i : Interpreting). i.state) j.is;
  number_is = ap (λ (i : Interpreting). i.number) j.is ∙ ap (λ n. n + 1) j.keeps.lines.number_is;
}

-- all that is left of it is next
next_judged : {N : ℕ} (first : Opening) (was now : Board N) (h : Journal) (o : Outcome) (t : Todo) → IsJudged first was now h o → IsTodo t now.lines.left → IsTodo t o.work
next_judged first was now h o t j is = subst (IsTodo t) (ap (λ (i : Interpreting). i.left) j.is) is

not_halting : (t : Todo) (ts : List Task) → IsTodo t ts → (t ≡ todo.Halt → ⊥) → halts_next ts ≡ false
not_halting todo.Nothing ts is other = ap halts_next is
not_halting todo.Rest ts is other = ap halts_next is
not_halting (todo.Mark m) ts is other = ap halts_next is.0
not_halting todo.Move ts is other = ap halts_next is.1
not_halting todo.Tell ts is other = ap halts_next is.1
not_halting todo.Pause ts is other = ap halts_next is
not_halting todo.Normal ts is other = ap halts_next is
not_halting todo.Finish ts is other = ap halts_next is
not_halting todo.Halt ts is other = absurd (other refl)

-- it raises no alarm then
calm_line : {N : ℕ} (first : Opening) (was now : Board N) (h : Journal) (o : Outcome) → IsJudged first was now h o → halts_next o.work ≡ false → is_limit o.answer ≡ false
calm_line first was now h o j none = by_line (of_begun first h o HaltsOrNot (begins first was now h o j) (inr (refl, refl)) (line_halts true (caused first h) (open_of h)))
  where
    by_line : HaltsOrNot o → is_limit o.answer ≡ false
    by_line (inl (one, work)) = absurd (let e = sym none ∙ ap halts_next work in cc)
    by_line (inr (calm, work)) = calm

-- ---- a machine that is locked

both_off : (a b : Bool) → a ≡ true → (not a && b) ≡ false
both_off true b e = refl
both_off false b e = absurd cc

locked_by : (a b : Bool) → (not a && not b) ≡ false → b ≡ false → a ≡ true
locked_by true b e none = refl
locked_by false true e none = absurd cc
locked_by false false e none = absurd cc

-- no line waits for an unlock in alarm where no line has raised one: it is locked
pub still_is : (first : Opening) (h : Journal) → awaits_unlock first h ≡ false → has_limited h ≡ false → motion_of first h ≡ motions.Alarm → is_locked first h ≡ true
still_is first h none calm alarm = locked_by (is_locked first h) (has_limited h) (sym (ap (λ (m : AnyMotion). is_alarm m && (not (is_locked first h) && not (has_limited h))) alarm) ∙ none) calm

locks_on : (t a b : Bool) → (t && not a) ≡ true → b ≡ false → (t && not (a || b)) ≡ true
locks_on true false b was none = ap not none
locks_on true true b was none = absurd cc
locks_on false a b was none = absurd cc

locks_off : (t a b : Bool) → b ≡ true → (t && not (a || b)) ≡ false
locks_off true true b one = refl
locks_off true false b one = ap not one
locks_off false a b one = refl

or_off : (b : Bool) → (b || false) ≡ b
or_off true = refl
or_off false = refl

lines_on : (h : Journal) → list_any unlocks (lines_of h ++ open_of h ∷ []) ≡ (list_any unlocks (lines_of h) || unlocks (open_of h))
lines_on h = list_any-append unlocks (lines_of h) (open_of h ∷ []) ∙ ap (λ (b : Bool). list_any unlocks (lines_of h) || b) (or_off (unlocks (open_of h)))

none_awaited : (first : Opening) (h : Journal) (o : Outcome) → awaits_unlock first h ≡ false → has_limited h ≡ false → (motion_of first h ≡ motions.Alarm → unlocks (open_of h) ≡ false) → (m : AnyMotion) → motion_of first h ≡ m → awaits_unlock first (began o ∷ h) ≡ false
none_awaited first h o none calm still motions.Alarm is =
    let locked : is_locked first (began o ∷ h) ≡ true =
    ap (λ (b : Bool). is_limited first.motion && not b) (lines_on h) ∙ locks_on (is_limited first.motion) (list_any unlocks (lines_of h)) (unlocks (open_of h)) (still_is first h none calm is) (still is) in
    ap (λ (m : AnyMotion). is_alarm m && (not (is_locked first (began o ∷ h)) && not (is_limit o.answer))) is ∙ both_off (is_locked first (began o ∷ h)) (not (is_limit o.answer)) locked
none_awaited first h o none calm still m is = ap (λ (x : AnyMotion). is_alarm x && (not (is_locked first (began o ∷ h)) && not (is_limit o.answer))) is ∙ refl

-- a line is begun that does not halt the machine
pub begun : {N : ℕ} (first : Opening) (was now : Board N) (t : Todo) (h : Journal) (o : Outcome) → IsJudged first was now h o → was.resetting ≡ false → IsTodo t now.lines.left → (t ≡ todo.Halt → ⊥) → (motion_of first h ≡ motions.Alarm → unlocks (open_of h) ≡ false)
    → Keeps first now (began o ∷ h)
begun first was now t h o j none is other still =
    let k = j.keeps in
    subst (λ (c : Board _). Keeps first c (began o ∷ h)) (sym j.same) (record {
      placed = k.placed;
      sized = k.sized;
      short = k.short;
      conducted = (begins first was now h o j, k.conducted);
      machine = k.machine;
      lines = works first was now h o j;
      input = j.reads;
      flight = record { known = k.flight.known; found = k.flight.found; flies = k.flight.flies };
      owes_is = k.owes_is;
      resetting_is = k.resetting_is;
      taken_is = k.taken_is;
      answered_is = k.answered_is;
      greeted_is = k.greeted_is;
      prompt = (record { further = λ e. absurd (let f = sym e ∙ sym k.resetting_is ∙ none in cc); waits = k.unready }, k.prompt);
      unready = λ may. absurd (let e = may.between in cc);
      jogged_is = j.jogs ∙ ap (jogged_behind o.kind) k.jogged_is;
      cut_is = k.cut_is;
      going = k.going;
      closed = k.closed;
      limited = not_halting t o.work (next_judged first was now h o t j is) other;
      alarmed_is = k.alarmed_is ∙ calm_whole first was h k j.may.looked.whole ∙ sym (calm_line first was now h o j (not_halting t o.work (next_judged first was now h o t j is) other));
      unlocked = none_awaited first h o k.unlocked (calm_whole first was h k j.may.looked.whole) still (motion_of first h) refl;
      tries = λ one. j.may.looked.tries;
    })

-- ---- a line that a soft limit stops

limit_to : (m : AnyMotion) → (m ≡ motions.Idle) ⊎ (m ≡ motions.Run) → after_call on_limit m ≡ Some (limit_motion m)
limit_to m (inl idle) = ap (after_call on_limit) idle ∙ ap (λ x. Some (limit_motion x)) (sym idle)
limit_to m (inr run) = ap (after_call on_limit) run ∙ ap (λ x. Some (limit_motion x)) (sym run)

-- it raises an alarm
alarms : {N : ℕ} (first : Opening) (was now : Board N) (h : Journal) (o : Outcome) → IsJudged first was now h o → halts_next o.work ≡ true → is_limit o.answer ≡ true
alarms first was now h o j halts = by_line (of_begun first h o HaltsOrNot (begins first was now h o j) (inr (refl, refl)) (line_halts true (caused first h) (open_of h)))
  where
    by_line : HaltsOrNot o → is_limit o.answer ≡ true
    by_line (inl (one, work)) = one
    by_line (inr (none, work)) = absurd (let e = sym halts ∙ none_halts_next o.work work in cc)

-- so the machine stands, or runs
stands_or_runs : {N : ℕ} (first : Opening) (was now : Board N) (h : Journal) (o : Outcome) → IsJudged first was now h o → halts_next o.work ≡ true → (motion_of first h ≡ motions.Idle) ⊎ (motion_of first h ≡ motions.Run)
stands_or_runs first was now h o j halts = alarm_stands first h o (begins first was now h o j, j.keeps.conducted) (alarms first was now h o j halts)

-- the machine is as it was
pub machine_judged : {N : ℕ} (first : Opening) (was now : Board N) (h : Journal) (o : Outcome) → IsJudged first was now h o → Runs now.machine (plan_of h) (motion_of first h) (hand_of h) (given_of h)
machine_judged first was now h o j = subst (λ (c : Board _). Runs c.machine (plan_of h) (motion_of first h) (hand_of h) (given_of h)) (sym j.same) j.keeps.machine

pub may_limit : {N : ℕ} (first : Opening) (was now : Board N) (h : Journal) (o : Outcome) → IsJudged first was now h o → IsTodo todo.Halt now.lines.left → (now.machine.hold.motion ≡ motions.Idle) ⊎ (now.machine.hold.motion ≡ motions.Run)
may_limit first was now h o j is = by_motion (stands_or_runs first was now h o j (ap halts_next (next_judged first was now h o todo.Halt j is)))
  where
    same : now.machine.hold.motion ≡ motion_of first h
    same = (machine_judged first was now h o j).motion_is

    by_motion : (motion_of first h ≡ motions.Idle) ⊎ (motion_of first h ≡ motions.Run) → (now.machine.hold.motion ≡ motions.Idle) ⊎ (now.machine.hold.motion ≡ motions.Run)
    by_motion (inl idle) = inl (same ∙ idle)
    by_motion (inr run) = inr (same ∙ run)

not_limited : (m : AnyMotion) → (m ≡ motions.Idle) ⊎ (m ≡ motions.Run) → is_limited m ≡ false
not_limited m (inl idle) = ap is_limited idle
not_limited m (inr run) = ap is_limited run

never_cut : {A : Type 0} (m : AnyMotion) → (m ≡ motions.Idle) ⊎ (m ≡ motions.Run) → m ≡ motions.Cancelling → A
never_cut m (inl idle) is = absurd (let e = sym idle ∙ is in cc)
never_cut m (inr run) is = absurd (let e = sym run ∙ is in cc)

limits_off : (m : AnyMotion) (was : Bool) → was ≡ false → was ≡ (is_cancelling (limit_motion m) && was)
limits_off motions.Run was none = none
limits_off m was none = none

-- and is stopped for that at once
none_waits_limited : (first : Opening) (h : Journal) (o : Outcome) → is_limit o.answer ≡ true → (m : AnyMotion) → awaits_unlock first (became on_limit m ∷ began o ∷ h) ≡ false
none_waits_limited first h o one m = none_of (is_alarm m) (is_locked first (began o ∷ h)) (is_limit o.answer) one
  where
    none_of : (a b c : Bool) → c ≡ true → (a && (not b && not c)) ≡ false
    none_of false b c e = refl
    none_of true true c e = refl
    none_of true false c e = ap not e

pub begun_limited : {N : ℕ} (first : Opening) (was now : Board N) (m : Machine N) (h : Journal) (o : Outcome) → IsJudged first was now h o → was.resetting ≡ false → IsTodo todo.Halt now.lines.left → Runs m (plan_of h) (limit_motion (motion_of first h)) (hand_of h) (given_of h)
    → Keeps first (record now { machine = m; alarmed = true }) (became on_limit (limit_motion (motion_of first h)) ∷ began o ∷ h)
begun_limited first was now m h o j none is runs =
    let k = j.keeps in
    let next = next_judged first was now h o todo.Halt j is in
    let halts : halts_next o.work ≡ true = ap halts_next next in
    let stands = stands_or_runs first was now h o j halts in
    subst (λ (c : Board _). Keeps first (record c { machine = m; alarmed = true }) (became on_limit (limit_motion (motion_of first h)) ∷ began o ∷ h)) (sym j.same) (record {
      placed = k.placed;
      sized = k.sized;
      short = k.short;
      conducted = (
        (limit_to (motion_of first h) stands, record { alarmed = alarms first was now h o j halts; next = next; unlimited = not_limited (motion_of first h) stands }),
        (begins first was now h o j, k.conducted),
      );
      machine = runs;
      lines = works first was now h o j;
      input = j.reads;
      flight = record { known = k.flight.known; found = k.flight.found; flies = k.flight.flies };
      owes_is = k.owes_is;
      resetting_is = k.resetting_is;
      taken_is = k.taken_is;
      answered_is = k.answered_is;
      greeted_is = k.greeted_is;
      prompt = (
        record { further = λ e. refl; waits = λ may. absurd (let e = may.between in cc) },
        (record { further = λ e. absurd (let f = sym e ∙ sym k.resetting_is ∙ none in cc); waits = k.unready }, k.prompt),
      );
      unready = λ may. absurd (let e = may.between in cc);
      jogged_is = j.jogs ∙ ap (jogged_behind o.kind) k.jogged_is;
      cut_is = k.cut_is ∙ limits_off (motion_of first h) (has_cut h) (uncut_else first h k.conducted (λ is. never_cut (motion_of first h) stands is));
      going = k.going;
      closed = k.closed;
      limited = refl;
      alarmed_is = sym (alarms first was now h o j halts);
      unlocked = none_waits_limited first h o (alarms first was now h o j halts) (limit_motion (motion_of first h));
      tries = λ e. j.may.looked.tries;
    })

-- ---- a line that unlocks the machine

alarm_never_cut : (m : AnyMotion) → m ≡ motions.Alarm → m ≡ motions.Cancelling → ⊥
alarm_never_cut m alarm is = absurd (let e = sym alarm ∙ is in cc)

pub begun_unlocked : {N : ℕ} (first : Opening) (was now : Board N) (m : Machine N) (h : Journal) (o : Outcome) → IsJudged first was now h o → was.resetting ≡ false → motion_of first h ≡ motions.Alarm → unlocks (open_of h) ≡ true → Runs m (plan_of h) motions.Idle (hand_of h) (given_of h)
    → Keeps first (record now { machine = m }) (became on_unlock motions.Idle ∷ began o ∷ h)
begun_unlocked first was now m h o j none alarm one runs =
    let k = j.keeps in
    let calm = calm_whole first was h k j.may.looked.whole in
    let s = still_locked first h o (begins first was now h o j, k.conducted) alarm in
    let free : is_locked first (began o ∷ h) ≡ false = ap (λ (b : Bool). is_limited first.motion && not b) (lines_on h) ∙ locks_off (is_limited first.motion) (list_any unlocks (lines_of h)) (unlocks (open_of h)) one in
    subst (λ (c : Board _). Keeps first (record c { machine = m }) (became on_unlock motions.Idle ∷ began o ∷ h)) (sym j.same) (record {
      placed = k.placed;
      sized = k.sized;
      short = k.short;
      conducted = ((ap (after_call on_unlock) alarm, record { calm = s.calm; unlocked = free }), (begins first was now h o j, k.conducted));
      machine = runs;
      lines = works first was now h o j;
      input = j.reads;
      flight = record { known = k.flight.known; found = k.flight.found; flies = k.flight.flies };
      owes_is = k.owes_is;
      resetting_is = k.resetting_is;
      taken_is = k.taken_is;
      answered_is = k.answered_is;
      greeted_is = k.greeted_is;
      prompt = (
        record { further = λ e. refl; waits = λ may. absurd (let e = may.between in cc) },
        (record { further = λ e. absurd (let f = sym e ∙ sym k.resetting_is ∙ none in cc); waits = k.unready }, k.prompt),
      );
      unready = λ may. absurd (let e = may.between in cc);
      jogged_is = j.jogs ∙ ap (jogged_behind o.kind) k.jogged_is;
      cut_is = k.cut_is ∙ uncut_else first h k.conducted (alarm_never_cut (motion_of first h) alarm);
      going = k.going;
      closed = k.closed;
      limited = ap halts_next s.work ∙ told_halts s.said;
      alarmed_is = k.alarmed_is ∙ calm ∙ sym s.calm;
      unlocked = refl;
      tries = λ e. j.may.looked.tries;
    })

-- ---- before it

few_where_whole : (first : Opening) (h : Journal) → whole_of h ≡ true → tries_of first h + tries_ahead first h ≤ 5 → tries_of first h ≤ 1
few_where_whole first h is few = let w = ap (λ b. ahead (left_of first h) b (is_reply_back h)) is in omega (arith, few, w)

-- what is known behind the look
pub looked_whole : (first : Opening) (h next : Journal) → IsReady first h → IsWholeLine first h → HasLooked first h next → IsLooked first next
looked_whole first h next ready line l =
    let p = l.passes in
    record {
      free = l.left ∙ line.free;
      going = p.closed ∙ line.going;
      whole = p.whole ∙ line.whole;
      begins = l.begins;
      worked = p.worked ready.quiet.worked;
      flags = p.flags ∙ ready.quiet.flags;
      unowed = p.owed ∙ ready.quiet.unowed;
      load = l.load;
      idle = l.idle;
      none_waits = l.none_waits ready.none_waits;
      unpolled = p.polled ∙ ready.unpolled;
      untold = none_told (this_turn next) (p.still ∙ ready.quiet.still) (p.replies ∙ ready.quiet.untold);
      unmissed = p.missed ∙ ready.unmissed;
      tries = (let few = few_where_whole first h line.whole ready.tries in let t = p.tries in omega (arith, few, t));
    }

-- queued blocks start before a line that begins with `$`
pub may_start : {N : ℕ} (first : Opening) (board : Board N) (h : Journal) → Keeps first board h → IsLooked first h → has_blocks (plan_of h).blocks ≡ true → begins_with_dollar (open_of h) ≡ true → MayStart first board.jogged h
may_start first board h k l blocks dollar = record {
  goes = ap halts_next l.free;
  blocks = blocks;
  called = called (starts_cycle first h) (whole_of h) (begins_with_dollar (open_of h)) l.whole dollar;
  jogs = sym k.jogged_is;
}
  where
    called : (a b c : Bool) → b ≡ true → c ≡ true → (a || (b && c)) ≡ true
    called true b c eb ec = refl
    called false b c eb ec = cc

pub judges_started : (first : Opening) (jog : Bool) (h : Journal) → IsLooked first h → has_blocks (plan_of h).blocks ≡ true → MayJudge first (starting jog h)
judges_started first jog h l blocks = record {
  looked = record {
    free = l.free;
    going = l.going;
    whole = l.whole;
    begins = either_true (begins_in (start_motion jog)) (is_locked first h) (starts_to_begin jog);
    worked = worked_behind (became (on_start jog) (start_motion jog)) h (starting jog h) refl (record { no_changes = refl; none_planned = refl }) refl refl l.worked;
    flags = l.flags;
    unowed = l.unowed;
    load = l.load;
    idle = λ d. absurd (blocks_undrained (starting jog h) blocks d);
    none_waits = λ w. starts_off jog w.stands;
    unpolled = l.unpolled;
    untold = l.untold;
    unmissed = l.unmissed;
    tries = l.tries;
  };
  starts = λ w. starts_off jog w.stands;
}

-- ---- the turn

-- A line was begun after these steps, with at most so many things published since, and nothing that bears on words of flags.
pub record IsBegun (first : Opening) (k : ℕ) (o : Outcome) (mid h : Journal) : Type 0 where
  pub front : List Step
  pub are : h ≡ front ++ began o ∷ mid
  pub inner : list_any ends_turn front ≡ false
  pub worked : AreWorked mid → AreWorked h
  pub once : count_by publishing (this_turn h) ≤ count_by publishing (this_turn mid) + k
  pub unpolled : list_any found_none (this_turn h) ≡ list_any found_none (this_turn mid)
  pub tries : tries_of first h ≤ tries_of first mid
  pub partial : whole_of h ≡ false
  pub free : IsFree mid → IsFree h
  pub moved : list_any moving (this_turn h) ≡ true

or_true : (a b : Bool) → b ≡ true → (a || b) ≡ true
or_true true b e = refl
or_true false b e = e

line_begun : (first : Opening) (o : Outcome) (mid : Journal) → IsBegun first 0 o mid (began o ∷ mid)
line_begun first o mid = record {
  front = [];
  are = refl;
  inner = refl;
  worked = worked_behind (began o) mid (began o ∷ mid) refl (record { no_changes = refl; none_planned = refl }) refl refl;
  once = (let c = publishes_none (began o) (this_turn mid) refl in omega (arith, c));
  unpolled = refl;
  tries = omega arith;
  partial = refl;
  free = λ f. record { flags = f.flags; obeyed = f.obeyed; unowed = f.unowed };
  moved = refl;
}

-- the motion is stopped for it at once
line_limited : (first : Opening) (o : Outcome) (mid : Journal) (m : AnyMotion) → IsBegun first 0 o mid (became on_limit m ∷ began o ∷ mid)
line_limited first o mid m =
    let line : Journal = began o ∷ mid in
    let b = line_begun first o mid in
    record {
      front = became on_limit m ∷ [];
      are = refl;
      inner = refl;
      worked = λ w. worked_behind (became on_limit m) line (became on_limit m ∷ line) refl (record { no_changes = refl; none_planned = refl }) refl refl (b.worked w);
      once = (let c = publishes_none (became on_limit m) (this_turn line) refl in let had = b.once in omega (arith, c, had));
      unpolled = refl;
      tries = b.tries;
      partial = b.partial;
      free = λ f. record { flags = f.flags; obeyed = f.obeyed; unowed = f.unowed };
      moved = refl;
    }

-- or the machine is unlocked
line_unlocked : (first : Opening) (o : Outcome) (mid : Journal) → IsBegun first 0 o mid (became on_unlock motions.Idle ∷ began o ∷ mid)
line_unlocked first o mid =
    let line : Journal = began o ∷ mid in
    let b = line_begun first o mid in
    record {
      front = became on_unlock motions.Idle ∷ [];
      are = refl;
      inner = refl;
      worked = λ w. worked_behind (became on_unlock motions.Idle) line (became on_unlock motions.Idle ∷ line) refl (record { no_changes = refl; none_planned = refl }) refl refl (b.worked w);
      once = (let c = publishes_none (became on_unlock motions.Idle) (this_turn line) refl in let had = b.once in omega (arith, c, had));
      unpolled = refl;
      tries = b.tries;
      partial = b.partial;
      free = λ f. record { flags = f.flags; obeyed = f.obeyed; unowed = f.unowed };
      moved = refl;
    }

has_begun : (first : Opening) (o : Outcome) (mid line : Journal) → HasBegun first o mid line → IsBegun first 0 o mid line
has_begun first o mid line (inl is) = subst (λ (j : Journal). IsBegun first 0 o mid j) (sym is) (line_begun first o mid)
has_begun first o mid line (inr (inl is)) = subst (λ (j : Journal). IsBegun first 0 o mid j) (sym is) (line_limited first o mid (limit_motion (motion_of first mid)))
has_begun first o mid line (inr (inr is)) = subst (λ (j : Journal). IsBegun first 0 o mid j) (sym is) (line_unlocked first o mid)

-- a step at the port behind it that takes no byte, tries no piece and takes no word of flags
begun_on : (first : Opening) (o : Outcome) (mid h next : Journal) (s : Step) → next ≡ s ∷ h → IsBegun first 0 o mid h → IsNoWord s → owes_report next ≡ owes_report h → unobeyed_of next ≡ unobeyed_of h → flags_taken next ≡ flags_taken h
    → this_turn next ≡ s ∷ this_turn h → found_none s ≡ false → ends_turn s ≡ false → tries_of first next ≤ tries_of first h → whole_of next ≡ whole_of h → IsBegun first 1 o mid next
begun_on first o mid h next s is b plain owed words flags turn none inner tries whole = record {
  front = s ∷ b.front;
  are = is ∙ ap (λ (j : Journal). s ∷ j) b.are;
  inner = ap (λ t. t || list_any ends_turn b.front) inner ∙ b.inner;
  worked = λ w. worked_behind s h next turn plain owed words (b.worked w);
  once = (let c = ap (λ ss. count_by publishing ss) turn in let one = at_most_one s (this_turn h) in let had = b.once in omega (arith, c, one, had));
  unpolled = ap (λ ss. list_any found_none ss) turn ∙ ap (λ t. t || list_any found_none (this_turn h)) none ∙ b.unpolled;
  tries = (let had = b.tries in omega (arith, tries, had));
  partial = whole ∙ b.partial;
  free = λ f. let free = b.free f in record { flags = flags ∙ free.flags; obeyed = words ∙ free.obeyed; unowed = owed ∙ free.unowed };
  moved = ap (λ ss. list_any moving ss) turn ∙ or_true (moving s) (list_any moving (this_turn h)) b.moved;
}
  where
    at_most_one : (s : Step) (ss : List Step) → count_by publishing (s ∷ ss) ≤ count_by publishing ss + 1
    at_most_one s ss = by_test (publishing s) refl
      where
        by_test : (t : Bool) → publishing s ≡ t → count_by publishing (s ∷ ss) ≤ count_by publishing ss + 1
        by_test true e = let c = publishes_one s ss e in omega (arith, c)
        by_test false e = let c = publishes_none s ss e in omega (arith, c)

-- and its first reply was told, or handed back
pub has_spoken : (first : Opening) (o : Outcome) (mid line next : Journal) → HasBegun first o mid line → MayHaveTold line next → IsBegun first 1 o mid next
has_spoken first o mid line next begun (untold is) =
    let b = has_begun first o mid line begun in
    subst (λ (j : Journal). IsBegun first 1 o mid j) (sym is) (record { front = b.front; are = b.are; inner = b.inner; worked = b.worked; once = (let c = b.once in omega (arith, c)); unpolled = b.unpolled; tries = b.tries; partial = b.partial; free = b.free; moved = b.moved })
has_spoken first o mid line next begun (handed_back is) =
    subst (λ (j : Journal). IsBegun first 1 o mid j) (sym is)
    (begun_on first o mid line (at_port no_reply_room ∷ line) (at_port no_reply_room) refl (has_begun first o mid line begun) (record { no_changes = refl; none_planned = refl }) refl refl refl refl refl refl (omega arith) refl)
has_spoken first o mid line next begun (was_told r is) =
    subst (λ (j : Journal). IsBegun first 1 o mid j) (sym is)
    (begun_on first o mid line (at_port (answered r) ∷ line) (at_port (answered r)) refl (has_begun first o mid line begun) (record { no_changes = refl; none_planned = refl }) refl refl refl refl refl refl (takes_back (are_many (left_of first line) && nat_lt 1 (tries_of first line)) (tries_of first line)) refl)

-- no report is owed behind a line that was begun
pub begun_unowed : (first : Opening) (o : Outcome) (mid line : Journal) → MayJudge first mid → HasBegun first o mid line → owes_report line ≡ false
begun_unowed first o mid line may (inl is) = ap owes_report is ∙ may.looked.unowed
begun_unowed first o mid line may (inr (inl is)) = ap owes_report is ∙ may.looked.unowed
begun_unowed first o mid line may (inr (inr is)) = ap owes_report is ∙ may.looked.unowed

-- nor was a reply tried to be told
pub begun_untold : (first : Opening) (o : Outcome) (mid line : Journal) → MayJudge first mid → HasBegun first o mid line → AsksForRoom line
begun_untold first o mid line may (inl is) = subst AsksForRoom (sym is) may.looked.untold
begun_untold first o mid line may (inr (inl is)) = subst AsksForRoom (sym is) may.looked.untold
begun_untold first o mid line may (inr (inr is)) = subst AsksForRoom (sym is) may.looked.untold

-- a line is begun, its first reply is told where it has room, and moves are added behind it
pub did_begin_line : {N : ℕ} (first : Opening) (was : Flags) (board : Board N) (h seen mid spoken next : Journal) (o : Outcome) → IsReady first h → IsWholeLine first h → PassesNothing first h seen → DidAlone first seen mid → IsBegun first 1 o mid spoken → Keeps first board next
    → board.published ≡ false → board.flags ≡ words.None → HasFilled first spoken next → BoardWorked first Did was board h next
did_begin_line first was board h seen mid spoken next o ready line look alone b keeps unpublished no_word filled =
    let a = alone.passes in
    let few = few_where_whole first h line.whole ready.tries in
    let quiet : count_by publishing (this_turn mid) ≡ 0 = a.quiet ∙ look.quiet ∙ ready.quiet.quiet in
    let tries : tries_of first mid ≡ tries_of first h = a.tries ∙ look.tries in
    let free = free_passed first seen mid a (free_passed first h seen look (free_of h ready.quiet)) in
    let taken = takes_none board next no_word (free_passed first spoken next filled.alone.passes (b.free free)) in
    let steps = b.front ++ began o ∷ (a.steps ++ look.steps) in
    let before : began o ∷ mid ≡ began o ∷ ((a.steps ++ look.steps) ++ h) = ap (λ (j : Journal). began o ∷ j) (a.are ∙ ap (λ (j : Journal). a.steps ++ j) look.are ∙ sym (append_assoc a.steps look.steps h)) in
    let are : spoken ≡ steps ++ h = b.are ∙ ap (λ (j : Journal). b.front ++ j) before ∙ sym (append_assoc b.front (began o ∷ (a.steps ++ look.steps)) h) in
    let inner : list_any ends_turn steps ≡ false = none_ends b.front (began o ∷ (a.steps ++ look.steps)) b.inner (none_ends a.steps look.steps a.inner look.inner) in
    let once = b.once in
    let tried = b.tries in
    let two = ahead_less (left_of first spoken) (whole_of spoken) (is_reply_back spoken) b.partial in
    did_filled first was board h spoken next steps are inner keeps unpublished taken filled (b.worked (a.worked (look.worked ready.quiet.worked)))
    (omega (arith, once, quiet)) (b.unpolled ∙ a.polled ∙ look.polled ∙ ready.unpolled) (omega (arith, few, tries, tried, two)) (inl (filled.alone.passes.moves b.moved))

-- the port knows nothing of that
pub port_begun : (first : Opening) (o : Outcome) (mid line : Journal) → HasBegun first o mid line → port_log line ≡ port_log mid
port_begun first o mid line (inl is) = ap port_log is
port_begun first o mid line (inr (inl is)) = ap port_log is
port_begun first o mid line (inr (inr is)) = ap port_log is
