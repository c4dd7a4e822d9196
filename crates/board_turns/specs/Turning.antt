-- What is known within a turn of a board, and what its parts add.
use Rattle.std.specs.Prelude.{◌≡◌, ◌⊎◌, ℕ, ◌+◌, ◌≤◌, ◌<◌, Bool, true, false, ◌||◌, cond, List, [], ◌∷◌, ◌++◌, drop, Some, None}
use Rattle.std.specs.List.{list_any, count_by}
use Rattle.std.specs.declared.option.Option.{Option}
use Rattle.code_table.specs.declared.flags.Exec.{Exec}
use Rattle.code_table.specs.declared.flags.Ovr.{Ovr}
use Rattle.overrides.specs.Percents.{taken}
use Rattle.planner_runs.specs.declared.Action.TheVariants.{Override}
use Rattle.feed_hold.specs.declared.Motion.TheVariants.{Idle, Holding, Held, Cancelling, Stopping, Alarm}
use Rattle.feed_hold.specs.Motions.{after_word}
use Rattle.feed_hold.specs.Motions.Call.{on_exec, on_start, on_limit, on_stopped, on_unlock}
use Rattle.flight.specs.Flights.{Flying, Flies}
use Rattle.outside.specs.declared.Turn.{Turn}
use Rattle.outside.specs.declared.Turn.TheVariants.{Did, Wait}
use Rattle.outside.specs.declared.On.{On}
use Rattle.run_rules.specs.Work.{Task, Outcome, asks}
use Rattle.run_rules.specs.Work.Task.{ask, pause, normal, finish, halt}
use Rattle.line_interpreter.specs.Lefts.{IsNextOf}
use Rattle.step_line.specs.Asking.Asked.{a_move, a_rest}
use Rattle.step_line.specs.declared.planned_move.PlannedMove.{PlannedMove}
use Rattle.board_journal.specs.Openings.{Opening}
use Rattle.board_journal.specs.Ports.{BoardLog}
use Rattle.board_journal.specs.Ports.{asks_reset, has_changes}
use Rattle.status_report.specs.declared.Reply.{Reply}
use Rattle.board_journal.specs.Ports.PortStep.{answered, no_reply_room, took_exec, took_ovr}
use Rattle.board_journal.specs.Steps.{Step, Journal, has_limited, port_log, open_of, before_of, whole_of, left_of, closed_tells, published_of, known_of, hand_of, plan_of, motion_of}
use Rattle.board_journal.specs.Steps.Step.{at_port, began, did, became, cut}
use Rattle.board_rules.specs.Cuts.{has_cut}
use Rattle.run_rules.specs.Outcomes.{jogged_behind, begins_with_dollar}
use Rattle.run_rules.specs.Finding.{Found}
use Rattle.board_rules.specs.Turns.{this_turn, publishing, passing, moving, ends_turn, found_none, lacks_reply_room, loads, has_blocks, awaits_motion, has_jog_to_start, is_full, is_going, begins_in, is_due, is_held_up, is_halting, machine_in, is_limited, is_locked as locked_still, is_counted, changes_taken, flags_taken, owes_report, tries_of, missed_of, waits_of}
use Rattle.board_rules.specs.Conduct.{MayTurn, AsksForRoom, IsNextTask, IsDrained, HasSlowedDown, IsStopped, AreWaiting, ticks_given}
pub use Rattle.board_rules.specs.Within.{tells_none, AreWorked, MayFinish, PassesNothing, DidAlone, MayHaveLooked, Tried, HasTried}
use Rattle.board_turns.specs.declared.board.Board.{Board}
use Rattle.board_machine.specs.Machines.{start_motion, limit_motion}
use Rattle.board_lines.specs.Inputs.{Reads}
use Rattle.board_turns.specs.declared.board.Flags.{Flags}
use Rattle.board_turns.specs.declared.board.Flags.TheVariants as words
use Rattle.board_turns.specs.Boards.{Keeps, Rounds, NoneWaits, TakesFlags, takes_no_word, changes_left, tries_ahead, number_of}

-- ---- what is known

-- a move is next
abbrev pub IsNextMove : Opening → Journal → Type 0
IsNextMove first h = (m : PlannedMove) × IsNextTask first (ask (a_move m)) h

-- a piece is in hand, or a segment is due
abbrev pub HasPiece : Opening → Journal → Type 0
HasPiece first h = (hand_of h ≡ [] → ⊥) ⊎ (is_due first h ≡ true)

-- Nothing has passed in this turn, nothing was published, and no reply was handed back. No word of flags is to be taken, and no report is
-- owed.
pub record IsQuiet (h : Journal) : Type 0 where
  pub still : list_any passing (this_turn h) ≡ false
  pub quiet : count_by publishing (this_turn h) ≡ 0
  pub worked : AreWorked h
  pub flags : flags_taken h ≡ true
  pub unowed : owes_report h ≡ false
  pub untold : list_any lacks_reply_room (this_turn h) ≡ false

-- Nothing has passed in this turn, and no byte was polled for. Where a segment is due one was tried to be published since
-- anything was waited for, and since a line was begun.
pub record IsReady (first : Opening) (h : Journal) : Type 0 where
  pub quiet : IsQuiet h
  pub unpolled : list_any found_none (this_turn h) ≡ false
  pub tried : is_due first h ≡ true → waits_of h ≡ []
  pub unmissed : missed_of first h ≡ false
  pub none_waits : NoneWaits first h
  pub tries : tries_of first h + tries_ahead first h ≤ 5
  pub few : is_counted first h ≡ false → tries_of first h + tries_ahead first h ≤ 4

-- What is in hand or due may be tried to be published, and the turn answered by that: nothing has passed, few tries stand behind the last
-- poll, and no reply of a line is next. Where a poll found no byte, no queued block waits, and no move is next.
pub record MayRun (first : Opening) (h : Journal) : Type 0 where
  pub quiet : IsQuiet h
  pub polled : list_any found_none (this_turn h) ≡ true → (AreWaiting first h → ⊥) × (IsNextMove first h → ⊥)
  pub once : is_counted first h ≡ true → tries_of first h + tries_ahead first h ≤ 3
  pub few : is_counted first h ≡ false → tries_of first h + tries_ahead first h ≤ 4
  pub unspoken : tells_none (left_of first h) ≡ true

-- The motion may be waited for: what is next waits for it, no queued block waits, and the machine stands, runs or jogs.
pub record MayAwait (first : Opening) (h : Journal) : Type 0 where
  pub run : MayRun first h
  pub going : begins_in (motion_of first h) ≡ true
  pub awaits : awaits_motion (left_of first h) ≡ true
  pub none_waits : NoneWaits first h

-- nothing is left to run, each tick is done, and the machine stands
pub record HasStopped (first : Opening) (h : Journal) : Type 0 where
  pub drained : IsDrained h
  pub stands : motion_of first h ≡ Idle

-- a rest is next, or overrides that are set at the end of a program
abbrev pub IsPassed : List Task → Type 0
IsPassed left = IsNextOf (ask a_rest) left ⊎ IsNextOf normal left

-- where what is next waits for the motion, that has stopped, and what is next is a pause or the end
abbrev pub NeedsNoWait : Opening → Journal → Type 0
NeedsNoWait first h = awaits_motion (left_of first h) ≡ true → HasStopped first h × (IsNextTask first pause h ⊎ IsNextTask first finish h)

-- What is next is not held up by a machine that is held, or slows down for that, and no soft limit stops the machine.
pub record GoesOn (first : Opening) (h : Journal) : Type 0 where
  pub held : is_halting (motion_of first h) ≡ true → is_held_up first h ≡ false
  pub unlimited : is_limited (motion_of first h) ≡ false

-- No line has raised an alarm, and one that was taken whole may be begun where nothing is left of the line before.
pub record LetsLines (first : Opening) (h : Journal) : Type 0 where
  pub calm : has_limited h ≡ false
  pub begins : left_of first h ≡ [] → whole_of h ≡ true → (begins_in (motion_of first h) || locked_still first h) ≡ true

-- What is next is held up, and it was not tried yet to publish a piece for it.
pub record IsHeldUp (first : Opening) (h : Journal) : Type 0 where
  pub ready : IsReady first h
  pub halts : is_halting (motion_of first h) ≡ true
  pub held_up : is_held_up first h ≡ true

-- Nothing is left of the line before, and a line was taken whole. The machine stands, runs or jogs, or is locked.
pub record IsWholeLine (first : Opening) (h : Journal) : Type 0 where
  pub free : left_of first h ≡ []
  pub going : closed_tells h ≡ []
  pub whole : whole_of h ≡ true
  pub goes : (begins_in (motion_of first h) || locked_still first h) ≡ true

-- A byte was polled for in this turn, and none was found.
pub record HasPolled (first : Opening) (h : Journal) : Type 0 where
  pub quiet : IsQuiet h
  pub found : list_any found_none (this_turn h) ≡ true
  pub free : left_of first h ≡ []
  pub going : closed_tells h ≡ []
  pub partial : whole_of h ≡ false
  pub tried : is_due first h ≡ true → waits_of h ≡ []
  pub none_waits : NoneWaits first h
  pub tries : tries_of first h ≡ 0

-- A line that was taken whole is next, and it was looked how many ticks are done: where nothing is left to run and each is,
-- the machine stands.
pub record IsLooked (first : Opening) (h : Journal) : Type 0 where
  pub free : left_of first h ≡ []
  pub going : closed_tells h ≡ []
  pub whole : whole_of h ≡ true
  pub begins : (begins_in (motion_of first h) || locked_still first h) ≡ true
  pub worked : AreWorked h
  pub flags : flags_taken h ≡ true
  pub unowed : owes_report h ≡ false
  pub load : list_any loads (this_turn h) ≡ true
  pub idle : IsDrained h → is_going (motion_of first h) ≡ false
  pub none_waits : NoneWaits first h
  pub unpolled : list_any found_none (this_turn h) ≡ false
  pub untold : AsksForRoom h
  pub unmissed : missed_of first h ≡ false
  pub tries : tries_of first h ≤ 1

-- It may be begun: no queued block waits where it begins with `$`.
pub record MayJudge (first : Opening) (h : Journal) : Type 0 where
  pub looked : IsLooked first h
  pub starts : AreWaiting first h → begins_with_dollar (open_of h) ≡ false

-- A line was judged, of which this becomes; it is not begun yet.
pub record IsJudged {N : ℕ} (first : Opening) (was now : Board N) (h : Journal) (o : Outcome) : Type 0 where
  pub keeps : Keeps first was h
  pub may : MayJudge first h
  pub found : Found (machine_in (motion_of first h)) (before_of first h) (open_of h) o
  pub is : now.lines ≡ record { state = o.next; number = was.lines.number + 1; left = o.work }
  pub jogs : now.jogged ≡ jogged_behind o.kind was.jogged
  pub reads : Reads now.input [] false
  pub same : now ≡ record was { lines = now.lines; input = now.input; jogged = now.jogged }

-- The line was begun; and where a soft limit stops it, so is the motion, or the machine is unlocked, where the line unlocks it.
abbrev pub HasBegun : Opening → Outcome → Journal → Journal → Type 0
HasBegun first o h next = (next ≡ began o ∷ h) ⊎ ((next ≡ became on_limit (limit_motion (motion_of first h)) ∷ began o ∷ h) ⊎ (next ≡ became on_unlock Idle ∷ began o ∷ h))

-- What is next is to halt the machine, which a soft limit has stopped: each tick that was given is done.
pub record IsAtLimit (first : Opening) (h : Journal) : Type 0 where
  pub next : IsNextTask first halt h
  pub limited : is_limited (motion_of first h) ≡ true
  pub speed : (plan_of h).speed ≡ 0
  pub empty : hand_of h ≡ []
  pub done : known_of h ≡ ticks_given h

-- ---- what is added

-- A reply was told that is next, or was handed back, or nothing was done.
pub data MayHaveTold (h next : Journal) : Type 0 where
  untold : next ≡ h → MayHaveTold h next
  handed_back : next ≡ at_port no_reply_room ∷ h → MayHaveTold h next
  was_told : (r : Reply) → next ≡ at_port (answered r) ∷ h → MayHaveTold h next

-- It was looked how many ticks are done; and where nothing is left to run and each is done, the machine stands.
pub record HasLooked (first : Opening) (h next : Journal) : Type 0 where
  pub passes : PassesNothing first h next
  pub load : list_any loads (this_turn next) ≡ true
  pub idle : IsDrained next → is_going (motion_of first next) ≡ false
  pub begins : (begins_in (motion_of first next) || locked_still first next) ≡ true
  pub left : left_of first next ≡ left_of first h
  pub none_waits : NoneWaits first h → NoneWaits first next

-- no move that is next has room
abbrev pub NoneFits : Opening → Journal → Type 0
NoneFits first h = (m : PlannedMove) → IsNextTask first (ask (a_move m)) h → is_full first.blocks (plan_of h) ≡ true

-- Moves were added: as many as have room. Where none was next, nothing was done.
pub record HasAdded (first : Opening) (h next : Journal) : Type 0 where
  pub alone : DidAlone first h next
  pub hand : hand_of next ≡ hand_of h
  pub motion : motion_of first next ≡ motion_of first h
  pub adds : NoneFits first next
  pub moved : IsNextMove first h → is_full first.blocks (plan_of h) ≡ false → list_any moving (this_turn next) ≡ true
  pub none : (IsNextMove first h → ⊥) → next ≡ h

-- Moves were added, and queued blocks started where that is called for.
pub record HasFilled (first : Opening) (h next : Journal) : Type 0 where
  pub alone : DidAlone first h next
  pub hand : hand_of next ≡ hand_of h
  pub adds : NoneFits first next
  pub none_waits : NoneWaits first next
  pub moved : IsNextMove first h → is_full first.blocks (plan_of h) ≡ false → list_any moving (this_turn next) ≡ true
  pub waiting : (IsNextMove first h → ⊥) → AreWaiting first next → AreWaiting first h

-- queued blocks start, as a jog or not
abbrev pub starting : Bool → Journal → Journal
starting jog h = became (on_start jog) (start_motion jog) ∷ h

-- it is in alarm then, if it was not before
pub record IsInAlarm (first : Opening) (h next : Journal) : Type 0 where
  pub at : IsAtLimit first next
  pub alarm : motion_of first next ≡ Alarm
  pub alone : DidAlone first h next
  pub left : left_of first next ≡ left_of first h

-- The machine was halted: it is in alarm, and what was planned is dropped.
pub record HasHalted (first : Opening) (h next : Journal) : Type 0 where
  pub alone : DidAlone first h next
  pub left : left_of first next ≡ drop 1 (left_of first h)
  pub alarm : motion_of first next ≡ Alarm
  pub undue : is_due first next ≡ false

-- what of a word of requests is to be obeyed: nothing if it asks for a reset
abbrev pub to_obey : Exec → Option Exec
to_obey word = cond (asks_reset word) None (Some word)

-- a word that waits is obeyed
abbrev pub obeying : Opening → Option Exec → Journal → Journal
obeying first None h = h
obeying first (Some word) h =
    became (on_exec word (has_blocks (plan_of h).blocks)) (after_word word (has_blocks (plan_of h).blocks) (motion_of first h)) ∷ h

-- a word of requests was taken, and what it asks of the motion is done, unless it asks for a reset
abbrev pub obeyed : Opening → Exec → Journal → Journal
obeyed first word h = obeying first (to_obey word) (at_port (took_exec word) ∷ h)

-- a word of requests was taken; where a report is owed then, it is told before the word is obeyed
abbrev pub asked : Opening → Exec → Journal → Journal
asked first word h = cond (owes_report (at_port (took_exec word) ∷ h)) (at_port (took_exec word) ∷ h) (obeyed first word h)

-- so the words of flags go on
abbrev pub flags_behind : Bool → Exec → Flags
flags_behind owes word = cond owes (words.Report (to_obey word)) words.None

-- both words of flags are to be taken behind a wait, once the banner is told
abbrev pub words_awaited : (greeted : Bool) → Flags → Flags
words_awaited greeted f = cond greeted words.Both f

-- a word of changes of overrides was taken, and it is planned for what they come to, where it holds one
abbrev pub replanned : Ovr → Journal → Journal
replanned word h = cond (has_changes word) (did (Override (taken (plan_of h).overrides word)) [] ∷ (at_port (took_ovr word) ∷ h)) (at_port (took_ovr word) ∷ h)

-- No piece was published first: none is in hand or due, or the last turn has published, or one was handed back. What is next may be done
-- then, and the board's number is no greater.
pub record IsReadyBehind (first : Opening) (h next : Journal) : Type 0 where
  pub ready : IsReady first next
  pub steps : List Step
  pub are : next ≡ steps ++ h
  pub inner : list_any ends_turn steps ≡ false
  pub number : (was : Flags) → number_of first was next ≤ number_of first was h

-- ---- a machine that has stopped

-- the machine has stopped, as a load in this turn told, and a flight knows where
pub record IsFoundStopped (first : Opening) (f : Flying) (h : Journal) : Type 0 where
  pub stopped : IsStopped first h
  pub load : list_any loads (this_turn h) ≡ true
  pub flies : Flies first.place f (published_of h) (known_of h)

-- jogs that were cancelled were not cut since
pub record IsUncut (first : Opening) (h : Journal) : Type 0 where
  pub cancelled : motion_of first h ≡ Cancelling
  pub uncut : has_cut h ≡ false

-- What comes of that: the machine is held; or its jogs are cut; or they were, and it stands; or it is in alarm at a soft limit.
pub data ComesOf (first : Opening) (h next : Journal) : Type 0 where
  is_held : motion_of first h ≡ Holding → next ≡ became on_stopped Held ∷ h → ComesOf first h next
  is_cut : IsUncut first h → (k : ℕ) → next ≡ cut k ∷ h → ComesOf first h next
  is_locked : motion_of first h ≡ Stopping → next ≡ became on_stopped Alarm ∷ h → ComesOf first h next
  is_idle : motion_of first h ≡ Cancelling → has_cut h ≡ true → next ≡ became on_stopped Idle ∷ h → ComesOf first h next

-- the tasks that are left, the hand and the plan are as they were
pub record StaysSo (first : Opening) (h next : Journal) : Type 0 where
  pub left : left_of first next ≡ left_of first h
  pub hand : hand_of next ≡ hand_of h
  pub plan : plan_of next ≡ plan_of h

-- jogs were cut: nothing is asked for any more, and the cut is in hand
pub record IsCutNow (first : Opening) (h next : Journal) : Type 0 where
  pub uncut : IsUncut first h
  pub cancelled : motion_of first next ≡ Cancelling
  pub none : asks (left_of first next) ≡ []
  pub some : hand_of next ≡ [] → ⊥

-- Where the machine slowed down to a stop, it was looked how many ticks are done, and what comes of that came where each is.
pub record HasSettled (first : Opening) (h next : Journal) : Type 0 where
  pub passes : PassesNothing first h next
  pub stays : StaysSo first h next ⊎ IsCutNow first h next
  pub changes : changes_taken next ≡ changes_taken h
  pub looked : HasSlowedDown first next → list_any loads (this_turn next) ≡ true
  pub stopped : IsStopped first next → ⊥
  pub waiting : AreWaiting first next → AreWaiting first h
  pub jogs : has_jog_to_start first h ≡ false → has_jog_to_start first next ≡ false
  pub held : motion_of first h ≡ Held → motion_of first next ≡ Held
  pub falls : is_halting (motion_of first h) ≡ true → HasSlowedDown first h → (HasSlowedDown first next → ⊥) → changes_left (motion_of first next) (has_cut next) < changes_left (motion_of first h) (has_cut h)

-- What was done up to the end of a turn, before its answer: the board keeps it, the rules allow the answer, and where it is
-- Did something moved in the turn, or the board's number fell. It answers a wait only where it did not publish.
pub record BoardWorked {N : ℕ} (first : Opening) (t : Turn) (was : Flags) (board : Board N) (h next : Journal) : Type 0 where
  pub keeps : Keeps first board next
  pub rounds : Rounds first board.published next
  pub flags : TakesFlags board.flags next
  pub still : board.published ≡ true → takes_no_word board.flags ≡ true
  pub unpublished : (on : On) → t ≡ Wait on → board.published ≡ false
  pub steps : List Step
  pub are : next ≡ steps ++ h
  pub inner : list_any ends_turn steps ≡ false
  pub may : MayTurn first t next
  pub moves : t ≡ Did → (list_any moving (this_turn next) ≡ true) ⊎ (number_of first board.flags next < number_of first was h)

-- behind a journal a board has worked up to an answer, and its port stands for that
abbrev pub WorksOn : {N : ℕ} → Opening → (BoardLog → Type 0) → Turn → Flags → Board N → Journal → Type 0
WorksOn first stands t was board h = (next : Journal) × stands (port_log next) × BoardWorked first t was board h next
