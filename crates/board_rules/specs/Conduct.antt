-- The rules of a board: what it may do next.
use Rattle.std.specs.Prelude.{◌≡◌, ℕ, ◌+◌, ◌*◌, ◌/◌, ◌≤◌, ◌<◌, ◌⊎◌, Bool, true, false, ◌&&◌, ◌||◌, cond, nat_lt, List, [], ◌∷◌, length, drop, Some, None}
use Rattle.std.specs.declared.option.Option.{Option}
use Rattle.std.specs.List.{AllByRecursion, Contains, list_any, count_by}
use Rattle.code_table.specs.declared.flags.Exec.{Exec}
use Rattle.code_table.specs.declared.flags.Ovr.{Ovr}
use Rattle.feed_hold.specs.declared.Motion.{Motion}
use Rattle.feed_hold.specs.declared.Motion.TheVariants as motions
use Rattle.feed_hold.specs.Motions.{Call, after, is_stopping}
use Rattle.feed_hold.specs.Motions.Call.{on_exec, on_start, on_limit, on_pause, on_stopped, on_drained, on_unlock}
use Rattle.flight.specs.Places.{machine_from}
use Rattle.outside.specs.declared.On.{On}
use Rattle.outside.specs.declared.On.TheVariants as on
use Rattle.outside.specs.declared.Turn.{Turn}
use Rattle.outside.specs.declared.Turn.TheVariants.{Did, Wait, Done}
use Rattle.overrides.specs.declared.Overrides.{Overrides}
use Rattle.overrides.specs.Percents.{taken}
use Rattle.plan_rules.specs.Plans.{Planned}
use Rattle.planner_runs.specs.declared.Action.{Action}
use Rattle.planner_runs.specs.declared.Action.TheVariants.{Add, Take, Override, Mark, Rest, Clear, Reset}
use Rattle.planner_runs.specs.Runs.{Plans, IsAtRest, normal_overrides}
use Rattle.run_rules.specs.Work.{Task, Outcome}
use Rattle.run_rules.specs.Work.Task.{ask, tell, pause, normal, finish, halt}
use Rattle.run_rules.specs.Finding.{Found}
use Rattle.run_rules.specs.Reports.{Shows}
use Rattle.plan_rules.specs.declared.Mode.TheVariants.{Go, Hold}
use Rattle.status_report.specs.declared.Reply.{Reply}
use Rattle.status_report.specs.declared.Reply.TheVariants.{Bye}
use Rattle.status_report.specs.Reports.{HasWidths, IsReport}
use Rattle.status_report.specs.declared.reports.Report.{Report}
use Rattle.status_report.specs.declared.reports.State.{State as Shown}
use Rattle.status_report.specs.declared.reports.State.TheVariants as shown
use Rattle.status_report.specs.Answering.{is_banner, is_report}
use Rattle.units.specs.Roots.{root_of}
use Rattle.step_line.specs.Asking.Asked.{a_move, a_mark, a_rest}
use Rattle.step_line.specs.Records.{IsMark}
use Rattle.step_line.specs.declared.Mark.TheVariants as marks
use Rattle.step_line.specs.declared.Piece.{Piece}
use Rattle.step_line.specs.declared.Piece.TheVariants as pieces
use Rattle.step_line.specs.declared.planned_move.PlannedMove.{PlannedMove}
use Rattle.step_line.specs.Finishing.{ticks_together}
use Rattle.board_journal.specs.Openings.{Opening, IsGreeting, IsPlanSize, most_greetings}
use Rattle.board_journal.specs.Ports.{PortStep, BoardLog, asks_report, has_changes, MayBeDone, HasTakenFew, HasFewReports, LacksPieceRoom}
use Rattle.board_journal.specs.Ports.PortStep.{took, found_empty, found_closed, answered, reported, no_reply_room, found_mark, took_exec, took_ovr, published, no_piece_room, loaded, stored_stop, found_no_halt, found_halt}
use Rattle.board_rules.specs.Cuts.{has_cut}
use Rattle.board_journal.specs.Steps.{Step, Journal, port_log, has_closed, has_limited, published_of, outcomes_of, known_of, open_of, whole_of, before_of, left_of, closed_tells, given_of, hand_of, plan_of, motion_of, plan_after}
use Rattle.board_journal.specs.Steps.Step.{at_port, began, did, made_end, evened, paused, became, cut, halted, closing, turned}
use Rattle.board_rules.specs.Turns.{
  this_turn,
  publishing,
  passing,
  is_greeted,
  unobeyed_of,
  owes_report,
  is_report_back,
  takes_changes,
  replans,
  asks_no_start,
  flags_taken,
  found_nothing,
  polls_byte,
  polls_room,
  lacks_reply_room,
  lacks_piece_room,
  finds_free,
  loads,
  tells_next,
  awaits_motion,
  halts_next,
  is_limited,
  is_locked,
  awaits_unlock,
  stands_still,
  is_held_up,
  has_blocks,
  is_full,
  starts_cycle,
  starts_before_line,
  has_jogged,
  has_jog_to_start,
  machine_in,
  is_going,
  begins_in,
  is_due,
  tries_of,
  most_tries,
  missed_of,
  waits_of,
}

-- it comes next of what is left to do
abbrev pub IsNextTask : Opening → Task → Journal → Type 0
IsNextTask first t h = left_of first h ≡ t ∷ drop 1 (left_of first h)

-- it is the piece in hand
abbrev pub IsInHand : Piece → Journal → Type 0
IsInHand p h = hand_of h ≡ p ∷ drop 1 (hand_of h)

-- no report is owed
abbrev pub OwesNone : Journal → Type 0
OwesNone h = owes_report h ≡ false

-- the ticks of the pieces given, and of those published
abbrev pub ticks_given : Journal → ℕ
ticks_given h = ticks_together (given_of h)

abbrev pub ticks_published : Journal → ℕ
ticks_published h = ticks_together (published_of h)

-- nothing is left to run, and each tick was found done
pub record IsDrained (h : Journal) : Type 0 where
  pub plan : IsAtRest (plan_of h)
  pub hand : hand_of h ≡ []
  pub done : known_of h ≡ ticks_given h

-- ---- what is done at the port

-- The next byte is polled for, once in a turn: nothing is left to do, no line waits to be begun, the run is not being closed, and no
-- line has raised an alarm.
pub record MayPoll (first : Opening) (h : Journal) : Type 0 where
  pub once : list_any polls_byte (this_turn h) ≡ false
  pub calm : has_limited h ≡ false
  pub all_done : left_of first h ≡ []
  pub partial : whole_of h ≡ false
  pub unclosed : closed_tells h ≡ []

-- a byte is taken; fewer than 2 ^ 31 were, as the port promises
pub record MayTake (first : Opening) (h : Journal) : Type 0 where
  pub polls : MayPoll first h
  pub few : HasTakenFew (port_log h)

-- One reply is tried to be told in a turn.
abbrev pub AsksForRoom : Journal → Type 0
AsksForRoom h = list_any polls_room (this_turn h) ≡ false

-- The next reply is answered, while no report is owed; Bye only with an empty hand, so that all that was given is
-- published by then. A machine that a line unlocks is unlocked before that is told.
pub record MayTell (first : Opening) (r : Reply) (h : Journal) : Type 0 where
  pub once : AsksForRoom h
  pub next : IsNextTask first (tell r) h
  pub plain : is_report r ≡ false
  pub unowed : OwesNone h
  pub empty : r ≡ Bye → hand_of h ≡ []
  pub unlocked : awaits_unlock first h ≡ false

-- A word of requests is taken once the banner is told, and the last one is obeyed. Fewer than 2 ^ 31 that ask for a
-- report were taken before one that does, as the port promises.
pub record MayTakeRequests (word : Exec) (h : Journal) : Type 0 where
  pub greeted : is_greeted h ≡ true
  pub obeyed : unobeyed_of h ≡ []
  pub few : asks_report word ≡ true → HasFewReports (port_log h)

-- a word of changes of overrides is taken once the banner is told
abbrev pub MayTakeChanges : Journal → Type 0
MayTakeChanges h = is_greeted h ≡ true

-- A report that is owed was tried to be told, and handed back, since a piece was last tried to be published.
abbrev pub ReportsFirst : Journal → Type 0
ReportsFirst h = owes_report h ≡ true → is_report_back h ≡ true

-- A piece is handed back if the port has no room, as it promises. It is tried to be published only behind a report that is owed.
pub record MayKeep (done : ℕ) (h : Journal) : Type 0 where
  pub some : (hand_of h ≡ []) → ⊥
  pub reported : ReportsFirst h
  pub full : LacksPieceRoom done (port_log h)

-- ---- the plan

-- A segment is taken as planned while moves or jogs are carried out, once the one before is published. No word of requests waits to be
-- obeyed: so a hold that comes with a `?` is obeyed, whether its report finds room or not, before the motion goes on.
pub record MayGoOn (first : Opening) (h : Journal) : Type 0 where
  pub goes : is_going (motion_of first h) ≡ true
  pub empty : hand_of h ≡ []
  pub obeyed : unobeyed_of h ≡ []

-- a segment is taken so that the machine slows down, while it is to be held, or its jogs are cancelled
pub record MaySlowDown (first : Opening) (h : Journal) : Type 0 where
  pub slows : is_stopping (motion_of first h) ≡ true
  pub empty : hand_of h ≡ []

-- A word that changes overrides was just taken: it is planned for the overrides that these give.
pub record AreChanged (o : Overrides) (h : Journal) : Type 0 where
  pub word : Ovr
  pub earlier : BoardLog
  pub last : port_log h ≡ took_ovr word ∷ earlier
  pub some : has_changes word ≡ true
  pub taken : o ≡ taken (plan_of h).overrides word

-- a mark is made with an empty hand, if it is next
pub record MayMark (first : Opening) (t : Task) (h : Journal) : Type 0 where
  pub next : IsNextTask first t h
  pub empty : hand_of h ≡ []

-- the motion is waited for no longer: nothing is left to run, each tick is done, and the machine stands
pub record MayRest (first : Opening) (t : Task) (h : Journal) : Type 0 where
  pub next : IsNextTask first t h
  pub drained : IsDrained h
  pub stands : motion_of first h ≡ motions.Idle

-- why it is done; what a cut takes away is a step of its own
abbrev pub MayDo : Opening → Action → Journal → Type 0
MayDo first (Add m) h = IsNextTask first (ask (a_move m)) h
MayDo first (Mark m) h = MayMark first (ask (a_mark m)) h
MayDo first Rest h = MayRest first (ask a_rest) h
MayDo first (Take Go) h = MayGoOn first h
MayDo first (Take Hold) h = MaySlowDown first h
MayDo first (Override o) h = AreChanged o h
MayDo first Clear h = ⊥
MayDo first Reset h = ⊥

-- an action gives these pieces, of a plan of at most so many blocks
abbrev pub Gives : ℕ → Action → List Piece → Planned → Type 0
Gives blocks a ps p = Plans blocks p (a ∷ []) ps (plan_after a ps p)

-- the end is made when nothing is left to run, each tick is done, and the machine stands, also in alarm; and only by
-- closing the run
pub record MayEnd (first : Opening) (h : Journal) : Type 0 where
  pub next : IsNextTask first finish h
  pub drained : IsDrained h
  pub stands : stands_still (motion_of first h) ≡ true
  pub closes : closed_tells h ≡ [] → ⊥

-- ---- the motion

-- the machine slowed down to a stop, with nothing in hand
pub record HasSlowedDown (first : Opening) (h : Journal) : Type 0 where
  pub slows : is_stopping (motion_of first h) ≡ true
  pub speed : (plan_of h).speed ≡ 0
  pub empty : hand_of h ≡ []

-- that, and each tick that was given is done
pub record IsStopped (first : Opening) (h : Journal) : Type 0 where
  pub slowed : HasSlowedDown first h
  pub done : known_of h ≡ ticks_given h

-- Jogs that were cancelled are cut, once for each cancel: the machine has stopped, as a load in this turn showed. The
-- cut has the number of the lines that were begun. No line has raised an alarm.
pub record MayCut (first : Opening) (k : ℕ) (h : Journal) : Type 0 where
  pub calm : has_limited h ≡ false
  pub cancelled : motion_of first h ≡ motions.Cancelling
  pub uncut : has_cut h ≡ false
  pub stopped : IsStopped first h
  pub load : list_any loads (this_turn h) ≡ true
  pub number : k ≡ first.lines + length (outcomes_of h)
  pub mark : IsMark (marks.Cut k)

-- A machine that a soft limit has stopped is halted: it stands in alarm, and each tick that was given is done.
pub record MayHalt (first : Opening) (h : Journal) : Type 0 where
  pub next : IsNextTask first halt h
  pub alarm : motion_of first h ≡ motions.Alarm
  pub still : (plan_of h).speed ≡ 0
  pub empty : hand_of h ≡ []
  pub done : known_of h ≡ ticks_given h

-- A cut is published in a turn in which a load gave all ticks that are published as done; and a segment only while no word of requests
-- waits to be obeyed.
abbrev pub IsTimely : Piece → Journal → Type 0
IsTimely (pieces.Mark (marks.Cut k)) h = (list_any loads (this_turn h) ≡ true) × (known_of h ≡ ticks_published h)
IsTimely (pieces.Segment s) h = unobeyed_of h ≡ []
IsTimely p h = Unit {0}

-- The machine has stopped. Jogs that were cancelled were cut, and a load in this turn gave the cut as done.
pub record MayStop (first : Opening) (h : Journal) : Type 0 where
  pub stopped : IsStopped first h
  pub cut_is : motion_of first h ≡ motions.Cancelling → has_cut h ≡ true
  pub load : motion_of first h ≡ motions.Cancelling → list_any loads (this_turn h) ≡ true

-- A word of requests was taken, while blocks are queued or none is. A report is sent before, if it asks for one, or
-- finds no room. In this turn the board looked whether a machine that slowed down has stopped: it is held already if
-- each tick is done, so that the word may resume it; or its jogs are cut, and it stands. A jog that is to start does so
-- before, and a machine that is to be halted slows down by then, so that no hold comes before its alarm.
pub record MayObey (first : Opening) (word : Exec) (queued : Bool) (h : Journal) : Type 0 where
  pub next : unobeyed_of h ≡ word ∷ []
  pub reported : owes_report h ≡ true → list_any lacks_reply_room (this_turn h) ≡ true
  pub blocks : queued ≡ has_blocks (plan_of h).blocks
  pub looked : HasSlowedDown first h → list_any loads (this_turn h) ≡ true
  pub stopped : IsStopped first h → ⊥
  pub jog : has_jog_to_start first h ≡ false
  pub halts : halts_next (left_of first h) ≡ true → is_limited (motion_of first h) ≡ true

-- queued blocks start the cycle, or a jog, if that is called for; if the machine is to be halted they are dropped, and
-- do not start
pub record MayStart (first : Opening) (jog : Bool) (h : Journal) : Type 0 where
  pub goes : halts_next (left_of first h) ≡ false
  pub blocks : has_blocks (plan_of h).blocks ≡ true
  pub called : starts_before_line first h ≡ true
  pub jogs : has_jogged h ≡ jog

-- A line that was begun has raised an alarm: the machine is to be halted, and does not slow down for that yet. If it
-- runs it slows down from here on, and if it stands it is in alarm at once.
pub record MayLimit (first : Opening) (h : Journal) : Type 0 where
  pub alarmed : has_limited h ≡ true
  pub next : IsNextTask first halt h
  pub unlimited : is_limited (motion_of first h) ≡ false

-- A line that was begun has unlocked a machine that was locked, and no line has raised an alarm.
pub record MayUnlock (first : Opening) (h : Journal) : Type 0 where
  pub calm : has_limited h ≡ false
  pub unlocked : is_locked first h ≡ false

-- why something happens to the motion; a pause is a step of its own
abbrev pub MayHappen : Opening → Call → Journal → Type 0
MayHappen first (on_start jog) h = MayStart first jog h
MayHappen first on_drained h = IsDrained h
MayHappen first (on_exec word queued) h = MayObey first word queued h
MayHappen first on_limit h = MayLimit first h
MayHappen first on_pause h = ⊥
MayHappen first on_stopped h = MayStop first h
MayHappen first on_unlock h = MayUnlock first h

-- the machine is held for a pause where it stands
pub record MayPause (first : Opening) (h : Journal) : Type 0 where
  pub rests : MayRest first pause h
  pub held : after on_pause (motion_of first h) ≡ Some motions.Held

-- At the end of a program, when the machine stands, it is planned for overrides of 100 percent.
pub record MayEven (first : Opening) (h : Journal) : Type 0 where
  pub rests : MayRest first normal h
  pub replans : Gives first.blocks (Override normal_overrides) [] (plan_of h)

-- queued blocks wait for a start
pub record AreWaiting (first : Opening) (h : Journal) : Type 0 where
  pub stands : motion_of first h ≡ motions.Idle
  pub blocks : has_blocks (plan_of h).blocks ≡ true

-- ---- reports

-- the state of the motion, as reports show it
abbrev pub shown_as : Motion → Shown
shown_as motions.Idle = shown.Idle
shown_as motions.Run = shown.Run
shown_as motions.Holding = shown.Hold1
shown_as motions.Held = shown.Hold0
shown_as motions.Jog = shown.Jog
shown_as motions.Cancelling = shown.Jog
shown_as motions.Stopping = shown.Hold1
shown_as motions.Alarm = shown.Alarm

-- a squared speed, in µm/s, as a feed in mm per minute
abbrev pub feed_of : ℕ → ℕ
feed_of speed = root_of speed * 60 / 1000

-- the room that a report shows, if it shows any: for blocks of the plan, and for bytes of the link, by a load in this
-- turn
abbrev pub IsRoom : Opening → Option (ℕ × ℕ) → Journal → Type 0
IsRoom first None h = Unit {0}
IsRoom first (Some (blocks, bytes)) h = (blocks + length (plan_of h).blocks ≡ first.blocks) × (list_any (finds_free bytes) (this_turn h) ≡ true)

-- A report is answered for a word that was taken and asked for one, so behind the banner. In its turn the done ticks were loaded: the place
-- is that after these, on all axes; the cycle is over if nothing is left to run and each is done, and a machine that
-- has stopped is held, or its jogs are cut. The feed is 0 if each tick that was given is done. It can be told: its places are near enough,
-- and its numbers as wide as their types.
pub record IsReportAt (first : Opening) (r : Report) (h : Journal) : Type 0 where
  pub once : AsksForRoom h
  pub owed : owes_report h ≡ true
  pub load : list_any loads (this_turn h) ≡ true
  pub idle : IsDrained h → is_going (motion_of first h) ≡ false
  pub stopped : IsStopped first h → ⊥
  pub shows : Shows (machine_from first.place (published_of h) (known_of h)) (before_of first h).state r
  pub room : IsRoom first r.buffer h
  pub feed : r.f ≡ cond (nat_lt (known_of h) (ticks_given h)) (feed_of (plan_of h).speed) 0
  pub overrides : r.ov ≡ (plan_of h).overrides
  pub state : r.state ≡ shown_as (motion_of first h)
  pub valid : IsReport r
  pub wide : HasWidths r

-- ---- at the port

-- Pieces are published in the order in which they were given. A journal tells the pulse of no stop, and looks for no halt: these are
-- the work of a reset, which is no part of it.
abbrev pub MayAtPort : Opening → PortStep → Journal → Type 0
MayAtPort first (took b) h = MayTake first h
MayAtPort first found_empty h = MayPoll first h
MayAtPort first found_closed h = MayPoll first h
MayAtPort first (answered r) h = MayTell first r h
MayAtPort first (reported r) h = IsReportAt first r h
MayAtPort first no_reply_room h = ((tells_next (left_of first h) || owes_report h) ≡ true) × AsksForRoom h
MayAtPort first (took_exec word) h = MayTakeRequests word h
MayAtPort first (took_ovr word) h = MayTakeChanges h
MayAtPort first (published p) h = IsInHand p h × IsTimely p h × ReportsFirst h
MayAtPort first (no_piece_room done) h = MayKeep done h
MayAtPort first (loaded done) h = MayBeDone done (port_log h)
MayAtPort first (found_mark number bytes) h = ⊥
MayAtPort first stored_stop h = ⊥
MayAtPort first found_no_halt h = ⊥
MayAtPort first (found_halt done) h = ⊥
MayAtPort first _ h = Unit {0}

-- ---- the lines

-- A line that was taken whole is begun, once both words of flags were taken after it, obeyed, and reported. In its turn
-- the done ticks were loaded, and the cycle is over if nothing is left to run and each is done. It becomes what it does
-- with the machine as it is found (`Found`). No line has raised an alarm; and if a segment was due since the line
-- before, one was tried to be published. One try to publish at most was counted since the last poll.
pub record MayBegin (first : Opening) (o : Outcome) (h : Journal) : Type 0 where
  pub calm : has_limited h ≡ false
  pub free : left_of first h ≡ []
  pub going : closed_tells h ≡ []
  pub whole : whole_of h ≡ true
  pub becomes : Found (machine_in (motion_of first h)) (before_of first h) (open_of h) o
  pub begins : (begins_in (motion_of first h) || is_locked first h) ≡ true
  pub flags : flags_taken h ≡ true
  pub obeyed : unobeyed_of h ≡ []
  pub unowed : OwesNone h
  pub load : list_any loads (this_turn h) ≡ true
  pub idle : IsDrained h → is_going (motion_of first h) ≡ false
  pub starts : AreWaiting first h → starts_before_line first h ≡ false
  pub tried : (missed_of first h && is_due first h) ≡ false
  pub few : tries_of first h ≤ 1

-- The run is closed if the link was found closed, and each line that was taken whole is begun and answered; or if one
-- has raised an alarm, and the alarm is sent.
pub record MayClose (first : Opening) (h : Journal) : Type 0 where
  pub free : left_of first h ≡ []
  pub going : closed_tells h ≡ []
  pub begun : whole_of h ≡ false
  pub closed : (has_closed h ≡ true) ⊎ (has_limited h ≡ true)

-- ---- the turns

-- What holds at the end of a turn: at most one thing was published; a move that is next is added unless the plan is
-- full; no queued block waits for a start that is called for; no more than five tries to publish come after the last
-- poll; the word of requests that was taken is obeyed, unless a report is sent first; the plan is made anew for each
-- change, once; and a machine that is to be halted slows down for that, or stands in alarm.
pub record EndsTurn (first : Opening) (h : Journal) : Type 0 where
  pub once : count_by publishing (this_turn h) ≤ 1
  pub adds : (m : PlannedMove) → IsNextTask first (ask (a_move m)) h → is_full first.blocks (plan_of h) ≡ true
  pub starts : AreWaiting first h → starts_cycle first h ≡ false
  pub tries : tries_of first h ≤ most_tries
  pub obeyed : owes_report h ≡ false → unobeyed_of h ≡ []
  pub changed : count_by replans (this_turn h) ≡ count_by takes_changes (this_turn h)
  pub halts : halts_next (left_of first h) ≡ true → is_limited (motion_of first h) ≡ true

-- no byte was found, nothing is left to do, and no report is owed
pub record NeedsByte (first : Opening) (h : Journal) : Type 0 where
  pub poll : list_any found_nothing (this_turn h) ≡ true
  pub free : left_of first h ≡ []
  pub partial : whole_of h ≡ false
  pub unowed : OwesNone h

-- What is next waits for ticks that were found not to be done, as it waits for the motion, or the motion slows down to
-- a stop.
pub record NeedsMotion (first : Opening) (h : Journal) : Type 0 where
  pub load : list_any loads (this_turn h) ≡ true
  pub undone : known_of h < ticks_published h
  pub awaits : (awaits_motion (left_of first h) || (is_stopping (motion_of first h) && is_held_up first h)) ≡ true

-- the machine is held, the word of requests that was taken does not resume it, and what is next does not go on before
pub record NeedsResume (first : Opening) (h : Journal) : Type 0 where
  pub held : motion_of first h ≡ motions.Held
  pub unasked : list_any asks_no_start (this_turn h) ≡ true
  pub held_up : is_held_up first h ≡ true

-- why the board waits
abbrev pub Needs : Opening → On → Journal → Type 0
Needs first on.Byte h = NeedsByte first h
Needs first on.ReplyRoom h = list_any lacks_reply_room (this_turn h) ≡ true
Needs first on.SegmentRoom h = list_any lacks_piece_room (this_turn h) ≡ true
Needs first on.Motion h = NeedsMotion first h
Needs first on.Resume h = NeedsResume first h
Needs first o h = ⊥

-- Something is waited for: there is a cause, nothing went on its way in this turn, both words of flags were taken and
-- obeyed since the last wait behind the banner, and if a segment is due, the board tried to publish one since the last wait for the same.
-- If a report is owed, there was no room for it in this turn.
pub record Waits (first : Opening) (o : On) (h : Journal) : Type 0 where
  pub ends : EndsTurn first h
  pub cause : Needs first o h
  pub still : list_any passing (this_turn h) ≡ false
  pub flags : flags_taken h ≡ true
  pub obeyed : unobeyed_of h ≡ []
  pub unowed : owes_report h ≡ true → list_any lacks_reply_room (this_turn h) ≡ true
  pub round : is_due first h ≡ true → Contains (waits_of h) o → ⊥

-- the run was closed, and nothing is left to do
pub record IsFinished (first : Opening) (h : Journal) : Type 0 where
  pub left : left_of first h ≡ []
  pub closed : closed_tells h ≡ Bye ∷ []

-- Bye is answered, and nothing was done in this turn
pub record IsOver (first : Opening) (h : Journal) : Type 0 where
  pub finished : IsFinished first h
  pub still : this_turn h ≡ []

-- what a turn answers; one that moves nothing and answers Did lowers the board's number, as the turn says itself
abbrev pub MayTurn : Opening → Turn → Journal → Type 0
MayTurn first Did h = EndsTurn first h
MayTurn first (Wait o) h = Waits first o h
MayTurn first Done h = IsOver first h

-- ---- all of it

-- the rule of each kind of step
abbrev pub MayStep : Opening → Step → Journal → Type 0
MayStep first (at_port e) h = MayAtPort first e h
MayStep first (began o) h = MayBegin first o h
MayStep first (did a ps) h = MayDo first a h × Gives first.blocks a ps (plan_of h)
MayStep first made_end h = MayEnd first h
MayStep first evened h = MayEven first h
MayStep first paused h = MayPause first h
MayStep first (became call m) h = (after call (motion_of first h) ≡ Some m) × MayHappen first call h
MayStep first (cut k) h = MayCut first k h
MayStep first halted h = MayHalt first h
MayStep first closing h = MayClose first h
MayStep first (turned t) h = MayTurn first t h

-- A journal may begin so: the machine stands, also in alarm, and what greets is short, answers nothing, and has one Banner; and the plan
-- has room for a block.
pub record MayOpen (first : Opening) : Type 0 where
  pub stands : stands_still first.motion ≡ true
  pub greets : AllByRecursion IsGreeting first.tells
  pub banner : count_by is_banner first.tells ≡ 1
  pub few : length first.tells ≤ most_greetings
  pub sized : IsPlanSize first.blocks

-- the machine stands in alarm since the opening: it is locked
abbrev pub IsLocked : Opening → Journal → Type 0
IsLocked first h = (first.motion ≡ motions.Alarm) × (motion_of first h ≡ motions.Alarm)

-- the opening is one, and each step of a journal might come when it came
abbrev pub Conducted : Opening → Journal → Type 0
Conducted first [] = MayOpen first
Conducted first (s ∷ h) = MayStep first s h × Conducted first h
