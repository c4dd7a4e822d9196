-- A machine that a soft limit stops is halted once each tick is done; then the alarm is told, and the run is closed.
use Rattle.std.proofs.Common.{◌≡◌, ℕ, ◌+◌, ◌≤◌, ◌<◌, ◌⊎◌, inl, inr, Bool, true, false, ◌&&◌, ◌||◌, List, [], ◌∷◌, ◌++◌, length, drop, nat_eq, sym, refl, ap, ◌∙◌, subst, arith}
use Rattle.board_rules.specs.Within.{tries_ahead}
use Rattle.feed_hold.specs.declared.Motion.{Motion as AnyMotion}
use Rattle.feed_hold.specs.declared.Motion.TheVariants as motions
use Rattle.feed_hold.specs.Motions.{is_stopping}
use Rattle.feed_hold.specs.Motions.Call.{on_stopped}
use Rattle.outside.specs.declared.On.TheVariants as on
use Rattle.outside.specs.declared.Turn.TheVariants.{Did, Wait}
use Rattle.planner_runs.specs.Runs.{cleared}
use Rattle.run_rules.specs.Work.{Task, pauses, soft_limit, halting_work, closing_work}
use Rattle.run_rules.specs.Work.Task.{ask, tell, pause, normal, halt}
use Rattle.step_line.specs.Asking.Asked.{a_move, a_mark, a_rest}
use Rattle.status_report.specs.declared.Reply.{Reply}
use Rattle.status_report.specs.declared.Message.TheVariants.{ResetToContinue}
use Rattle.status_report.specs.declared.Reply.TheVariants.{Alarm, Message, Bye}
use Rattle.line_interpreter.specs.Interpreting.{Interpreting}
use Rattle.line_interpreter.specs.Lefts.{IsNextOf, IsTodo}
use Rattle.line_interpreter.specs.declared.tasks.Todo.{Todo}
use Rattle.line_interpreter.specs.declared.tasks.Todo.TheVariants as todo
use Rattle.board_journal.specs.Openings.{Opening}
use Rattle.board_journal.specs.Ports.{MayBeDone}
use Rattle.board_journal.specs.Ports.PortStep.{loaded}
use Rattle.board_journal.specs.Steps.{Journal, has_limited, port_log, left_of, whole_of, closed_tells, given_of, hand_of, plan_of, motion_of}
use Rattle.board_journal.specs.Steps.Step.{at_port, became, halted, closing}
use Rattle.board_rules.specs.Turns.{this_turn, awaits_motion, halts_next, is_due, is_going, is_held_up, is_limited, is_slowing, tries_of, is_reply_back}
use Rattle.board_rules.specs.Conduct.{AreWaiting, IsNextTask, IsStopped, MayClose, ticks_given}
use Rattle.board_rules.proofs.Tasks.{none_next}
use Rattle.units.specs.Truths.{one_if}
use Rattle.board_turns.specs.declared.board.Board.{Board}
use Rattle.board_turns.specs.declared.board.Flags.{Flags}
use Rattle.board_turns.specs.declared.board.Flags.TheVariants as flags
use Rattle.board_machine.specs.declared.machine.Machine.{Machine}
use Rattle.board_machine.specs.Machines.{Runs}
use Rattle.board_turns.specs.Boards.{Keeps, Rounds, number_of}
use Rattle.board_turns.specs.Turning.{HasPiece, IsAtLimit, IsInAlarm, HasHalted, IsReady, PassesNothing, BoardWorked}
use Rattle.board_turns.proofs.Steps.{is_next, halts_by}
use Rattle.board_turns.proofs.PortSteps.{looked, one_less}
use Rattle.board_rules.proofs.Speeds.{no_speed, rests}
use Rattle.board_turns.proofs.Stages.{alarm_limits, ends_run, halts_raised, limited_next}
use Rattle.board_turns.proofs.Stopping.{locks}
use Rattle.board_turns.proofs.Standing.{all_published, awaits_no_move}
use Rattle.board_turns.proofs.Halting.{not_due, none_in_hand, slow_stands}
use Rattle.board_rules.proofs.Ahead.{ahead_less}
use Rattle.board_rules.proofs.Tries.{publishes_none, worked_behind, passes_none, passes_load, passes_on, alone_on, alone_motion, passes_halted}
use Rattle.board_turns.proofs.Ends.{rounds_still, free_of, free_passed, takes_none, no_word_left}
use Rattle.board_turns.proofs.Nexts.{quiet_on}

-- ---- a machine that a soft limit stops

-- it waits for no start, and is not held, nor slows down for that
limited_off : {A : Type 0} (m : AnyMotion) → is_limited m ≡ true → m ≡ motions.Idle → A
limited_off m is stands = absurd (let e = sym is ∙ ap is_limited stands in cc)

pub none_waiting : (first : Opening) (h : Journal) → is_limited (motion_of first h) ≡ true → AreWaiting first h → ⊥
none_waiting first h is w = limited_off (motion_of first h) is w.stands

limited_by : (m : AnyMotion) → is_limited m ≡ true → (is_stopping m ≡ true) ⊎ (rests m ≡ true)
limited_by motions.Stopping is = inl refl
limited_by motions.Alarm is = inr refl
limited_by m is = absurd cc

-- where nothing is in hand or due, it has no speed
no_speed_now : {N : ℕ} (first : Opening) (b : Board N) (h : Journal) → Keeps first b h → is_limited (motion_of first h) ≡ true → is_due first h ≡ false → (plan_of h).speed ≡ 0
no_speed_now first b h k is idle = by_motion (limited_by (motion_of first h) is)
  where
    by_motion : (is_stopping (motion_of first h) ≡ true) ⊎ (rests (motion_of first h) ≡ true) → (plan_of h).speed ≡ 0
    by_motion (inl slows) = slow_stands first b h k slows idle
    by_motion (inr stands) = no_speed first h k.conducted stands

-- once each tick is done, it may be halted
pub at_limit : {N : ℕ} (first : Opening) (b : Board N) (h : Journal) (done : ℕ) → Keeps first b h → is_limited (motion_of first h) ≡ true → IsNextTask first halt h → (HasPiece first h → ⊥) → done ≡ b.machine.given → IsAtLimit first (at_port (loaded done) ∷ h)
at_limit first b h done k is next none all = record {
  next = next;
  limited = is;
  speed = no_speed_now first b h k is (not_due first h none);
  empty = none_in_hand first h none;
  done = all ∙ k.machine.given_is;
}

-- ---- the motion is waited for

some_halt : (first : Opening) (h : Journal) → IsNextTask first halt h → left_of first h ≡ [] → ⊥
some_halt first h next none = none_next (left_of first h) halt none next

few_ready : {N : ℕ} (first : Opening) (b : Board N) (h : Journal) → Keeps first b h → IsReady first h → has_limited h ≡ true → tries_of first h + tries_ahead first h ≤ 4
few_ready first b h k ready alarmed =
    let one = alarm_limits first h k.conducted k.limited alarmed in
    let few = k.tries alarmed in
    let w = ahead_less (left_of first h) (whole_of h) (is_reply_back h) one.1 in
    omega (arith, few, w)

-- ticks are found not to be done
pub waits_at_limit : {N : ℕ} (first : Opening) (b : Board N) (h : Journal) (done : ℕ) → Keeps first b h → IsReady first h → is_limited (motion_of first h) ≡ true → IsNextTask first halt h → (HasPiece first h → ⊥) → b.published ≡ false → b.flags ≡ flags.None
    → MayBeDone done (port_log h) → done < b.machine.given → BoardWorked first (Wait on.Motion) b.flags b h (at_port (loaded done) ∷ h)
waits_at_limit first b h done k ready is next none unpublished no_word found fewer =
    let mid : Journal = at_port (loaded done) ∷ h in
    let few = few_ready first b h k ready (halts_raised first h k.conducted (ap halts_next next)) in
    let quiet = ready.quiet in
    let worked = (passes_load first done h).worked quiet.worked in
    let free = free_passed first h mid (passes_load first done h) (free_of h quiet) in
    let same = all_published first b h k (none_in_hand first h none) in
    let given : b.machine.given ≡ ticks_given h = k.machine.given_is in
    let awaits : awaits_motion (left_of first h) ≡ true = ap awaits_motion next in
    record {
      keeps = looked first b done h k found;
      rounds = subst (λ x. (Rounds first) x mid) (sym unpublished) (rounds_still first mid (λ a. absurd (none_waiting first h is (record { stands = a.stands; blocks = a.blocks }))) few);
      flags = takes_none b mid no_word free;
      still = λ e. no_word_left b.flags no_word;
      unpublished = λ other e. unpublished;
      steps = at_port (loaded done) ∷ [];
      are = refl;
      inner = refl;
      may = record {
        ends = record {
          once = let q = quiet.quiet in omega (arith, q);
          adds = λ m move. absurd (awaits_no_move (left_of first h) m awaits move);
          starts = λ a. absurd (none_waiting first h is (record { stands = a.stands; blocks = a.blocks }));
          tries = omega (arith, few);
          obeyed = worked.obeyed;
          changed = worked.changed;
          halts = halts_by first b h k;
        };
        cause = record { load = refl; undone = omega (arith, fewer, same, given); awaits = ap (λ b. b || (is_stopping (motion_of first h) && is_held_up first h)) awaits };
        still = quiet.still;
        flags = quiet.flags;
        obeyed = free.obeyed;
        unowed = λ e. absurd (let f = sym e ∙ free.unowed in cc);
        round = λ due already. absurd (let e = sym (not_due first h none) ∙ due in cc);
      };
      moves = λ e. absurd cc;
    }

-- ---- the machine is halted

no_more : (n : ℕ) → n ≤ n
no_more n = omega arith

-- what was planned is dropped where it stands in alarm
halts : {N : ℕ} (first : Opening) (c : Board N) (m : Machine N) (i : Interpreting) (h : Journal) → Keeps first c h → IsAtLimit first h → motion_of first h ≡ motions.Alarm → Runs m (cleared (plan_of h)) (motion_of first h) (hand_of h) (given_of h)
    → i ≡ record c.lines { left = drop 1 c.lines.left } → Keeps first (record c { machine = m; lines = i }) (halted ∷ h)
halts first c m i h k at alarm runs is = record {
  placed = k.placed;
  sized = k.sized;
  short = k.short;
  conducted = (record { next = at.next; alarm = alarm; still = at.speed; empty = at.empty; done = at.done }, k.conducted);
  machine = runs;
  lines = one_less c i first h k.lines is;
  input = k.input;
  flight = record { known = k.flight.known; found = k.flight.found; flies = k.flight.flies };
  owes_is = k.owes_is;
  resetting_is = k.resetting_is;
  taken_is = k.taken_is;
  answered_is = k.answered_is;
  greeted_is = k.greeted_is;
  prompt = (record { further = λ e. refl; waits = k.unready }, k.prompt);
  unready = λ may. absurd (let e = may.between in cc);
  jogged_is = k.jogged_is;
  cut_is = k.cut_is;
  going = k.going;
  closed = k.closed;
  limited = k.limited;
  alarmed_is = k.alarmed_is;
  unlocked = k.unlocked;
  tries = k.tries;
}

idle_off : (a : Bool) → (a && false) ≡ false
idle_off true = refl
idle_off false = refl

halted_alone : (first : Opening) (h : Journal) → motion_of first h ≡ motions.Alarm → HasHalted first h (halted ∷ h)
halted_alone first h alarm = record {
  alone = record { passes = passes_halted first h; port = refl };
  left = refl;
  alarm = alarm;
  undue = idle_off (is_going (motion_of first h) || is_slowing (motion_of first h) 0);
}

-- behind a journal it is in alarm
abbrev pub Locks : {N : ℕ} → Opening → Board N → Journal → Type 0
Locks first c h = (next : Journal) × Keeps first c next × IsInAlarm first h next

-- it was in alarm already
pub locked_before : {N : ℕ} (first : Opening) (c : Board N) (h : Journal) → Keeps first c h → IsAtLimit first h → c.machine.hold.motion ≡ motions.Alarm → Locks first c h
locked_before first c h k at is = (h, k, record { at = at; alarm = sym k.machine.motion_is ∙ is; alone = record { passes = passes_none first h; port = refl }; left = refl })

stopping_by : (m : AnyMotion) → is_limited m ≡ true → (m ≡ motions.Alarm → ⊥) → m ≡ motions.Stopping
stopping_by motions.Stopping is other = refl
stopping_by motions.Alarm is other = absurd (other refl)
stopping_by m is other = absurd cc

-- it has slowed down for that
pub was_slowing : {N : ℕ} (first : Opening) (c : Board N) (h : Journal) → Keeps first c h → IsAtLimit first h → (c.machine.hold.motion ≡ motions.Alarm → ⊥) → motion_of first h ≡ motions.Stopping
was_slowing first c h k at other = stopping_by (motion_of first h) at.limited (λ e. other (k.machine.motion_is ∙ e))

has_stopped : (first : Opening) (h : Journal) → IsAtLimit first h → motion_of first h ≡ motions.Stopping → IsStopped first h
has_stopped first h at slows = record { slowed = record { slows = ap is_stopping slows; speed = at.speed; empty = at.empty }; done = at.done }

pub locks_now : {N : ℕ} (first : Opening) (c : Board N) (m : Machine N) (h : Journal) → Keeps first c h → IsAtLimit first h → motion_of first h ≡ motions.Stopping → Runs m (plan_of h) motions.Alarm (hand_of h) (given_of h) → Locks first (record c { machine = m }) h
locks_now first c m h k at slows runs = (
  became on_stopped motions.Alarm ∷ h,
  locks first c m h k slows (has_stopped first h at slows) runs,
  record {
    at = record { next = at.next; limited = refl; speed = at.speed; empty = at.empty; done = at.done };
    alarm = refl;
    alone = alone_motion first on_stopped motions.Alarm h refl (omega arith);
    left = refl;
  },
)

-- what was planned is dropped then
pub halts_now : {N : ℕ} (first : Opening) (c : Board N) (m : Machine N) (i : Interpreting) (h mid : Journal) → Keeps first c mid → IsInAlarm first h mid → Runs m (cleared (plan_of mid)) (motion_of first mid) (hand_of mid) (given_of mid)
    → i ≡ record c.lines { left = drop 1 c.lines.left } → (next : Journal) × Keeps first (record c { machine = m; lines = i }) next × HasHalted first h next
halts_now first c m i h mid k locked runs is =
    let alone = halted_alone first mid locked.alarm in (
      halted ∷ mid,
      halts first c m i mid k locked.at locked.alarm runs is,
      record {
        alone = alone_on first h mid (halted ∷ mid) locked.alone alone.alone;
        left = ap (λ (ts : List Task). drop 1 ts) locked.left;
        alarm = alone.alarm;
        undue = alone.undue;
      },
    )

-- a board behind that is ready to tell the alarm
pub ready_halted : (first : Opening) (h mid next : Journal) → IsReady first h → IsNextTask first halt h → PassesNothing first h mid → left_of first mid ≡ left_of first h → HasHalted first mid next → IsReady first next
ready_halted first h mid next ready is look left stops =
    let p = passes_on first h mid next look stops.alone.passes in
    let t = p.tries in
    record {
      quiet = quiet_on first h next ready.quiet p;
      unpolled = p.polled ∙ ready.unpolled;
      tried = λ due. absurd (let e = sym stops.undue ∙ due in cc);
      unmissed = p.missed ∙ ready.unmissed;
      none_waits = λ w. absurd (let e = sym stops.alarm ∙ w.stands in cc);
      tries = (let w = p.ahead in let r = ready.tries in omega (arith, t, w, r));
      few = λ none. (let w = p.ahead in let f = ready.few (p.counted none) in omega (arith, t, w, f));
    }

-- ---- the run is closed

pub may_close : {N : ℕ} (first : Opening) (b : Board N) (h : Journal) → Keeps first b h → has_limited h ≡ true → left_of first h ≡ [] → b.closing ≡ false → MayClose first h
may_close first b h k alarmed none open_yet =
    let one = alarm_limits first h k.conducted k.limited alarmed in
    record { free = none; going = k.going open_yet; begun = one.1; closed = inr alarmed }

closing_falls : (first : Opening) (f : Flags) (h : Journal) → left_of first h ≡ [] → closed_tells h ≡ [] → number_of first f (closing ∷ h) < number_of first f h
closing_falls first f h none going =
    let p = ap pauses none in
    let c = ap (λ (rs : List Reply). one_if (nat_eq (length rs) 0)) going in
    let d = ap (λ (rs : List Reply). one_if (nat_eq (length (rs ++ Bye ∷ [])) 0)) going in
    omega (arith, p, c, d)

pub closes_limited : {N : ℕ} (first : Opening) (board now : Board N) (h : Journal) → Keeps first board h → Keeps first now (closing ∷ h) → IsReady first h → has_limited h ≡ true → left_of first h ≡ [] → board.closing ≡ false → now.published ≡ false
    → board.flags ≡ flags.None → now.flags ≡ flags.None → BoardWorked first Did board.flags now h (closing ∷ h)
closes_limited first board now h k keeps ready alarmed none open_yet unpublished no_word_was no_word =
    let one = alarm_limits first h k.conducted k.limited alarmed in
    let is = one.0 in
    let least = k.tries alarmed in
    let two = ahead_less closing_work (whole_of h) (is_reply_back h) one.1 in
    let few : tries_of first (closing ∷ h) + tries_ahead first (closing ∷ h) ≤ 4 = omega (arith, least, two) in
    let free = free_of h ready.quiet in
    let worked = worked_behind closing h (closing ∷ h) refl (record { no_changes = refl; none_planned = refl }) refl refl ready.quiet.worked in
    let none_now : AreWaiting first (closing ∷ h) → ⊥ = (λ w. (none_waiting first) h is (record { stands = w.stands; blocks = w.blocks })) in
    record {
      keeps = keeps;
      rounds = subst (λ b. (Rounds first) b (closing ∷ h)) (sym unpublished) (rounds_still first (closing ∷ h) (λ w. absurd (none_now w)) few);
      flags = takes_none now (closing ∷ h) no_word (record { flags = free.flags; obeyed = free.obeyed; unowed = free.unowed });
      still = λ e. no_word_left now.flags no_word;
      unpublished = λ o e. unpublished;
      steps = closing ∷ [];
      are = refl;
      inner = refl;
      may = record {
        once = (let a = publishes_none closing (this_turn h) refl in let q = ready.quiet.quiet in omega (arith, a, q));
        adds = λ m e. absurd cc;
        starts = λ w. absurd (none_now w);
        tries = omega (arith, few);
        obeyed = worked.obeyed;
        changed = worked.changed;
        halts = λ e. absurd cc;
      };
      moves = λ e. inr (subst (λ f. (number_of first) f (closing ∷ h) < number_of first board.flags h) (no_word_was ∙ sym no_word) (closing_falls first board.flags h none (k.going open_yet)));
    }

-- ---- what is next

-- the alarm is told behind the halt
pub alarm_next : {N : ℕ} (first : Opening) (c : Board N) (h mid next : Journal) → Keeps first c next → left_of first mid ≡ left_of first h → HasHalted first mid next → left_of first h ≡ halting_work → (r : Reply) × IsNextOf (tell r) c.lines.left
alarm_next first c h mid next k same stops left =
    let e : c.lines.left ≡ tell (Alarm soft_limit) ∷ tell (Message ResetToContinue) ∷ [] = k.lines.left_is ∙ stops.left ∙ ap (λ (ts : List Task). drop 1 ts) (same ∙ left) in
    (Alarm soft_limit, e ∙ ap (λ (ts : List Task). tell (Alarm soft_limit) ∷ drop 1 ts) (sym e))

not_ending : {N : ℕ} {A : Type 0} (first : Opening) (b : Board N) (h : Journal) (t : Task) → Keeps first b h → is_limited (motion_of first h) ≡ true → ends_run t ≡ false → IsNextOf t b.lines.left → A
not_ending first b h t k is other next = absurd (let e = sym (limited_next first h t k.conducted is (is_next first b h t k next)) ∙ other in cc)

-- nothing else is next of a run that a soft limit ends
pub nothing_else : {N : ℕ} (first : Opening) (b : Board N) (h : Journal) (t : Todo) → Keeps first b h → is_limited (motion_of first h) ≡ true → IsTodo t b.lines.left → (t ≡ todo.Halt → ⊥) → (t ≡ todo.Tell → ⊥) → (t ≡ todo.Finish → ⊥) → (t ≡ todo.Nothing → ⊥) → ⊥
nothing_else first b h todo.Nothing k is next stops tells ends none = none refl
nothing_else first b h todo.Rest k is next stops tells ends none = not_ending first b h (ask a_rest) k is refl next
nothing_else first b h (todo.Mark m) k is next stops tells ends none = not_ending first b h (ask (a_mark m)) k is refl next.0
nothing_else first b h todo.Move k is next stops tells ends none = not_ending first b h (ask (a_move next.0)) k is refl next.1
nothing_else first b h todo.Tell k is next stops tells ends none = tells refl
nothing_else first b h todo.Pause k is next stops tells ends none = not_ending first b h pause k is refl next
nothing_else first b h todo.Normal k is next stops tells ends none = not_ending first b h normal k is refl next
nothing_else first b h todo.Finish k is next stops tells ends none = ends refl
nothing_else first b h todo.Halt k is next stops tells ends none = stops refl
