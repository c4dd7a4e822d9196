-- The turns of a board: what it has done in this one, and what it owes its port from turn to turn.
use Rattle.std.specs.Prelude.{ℕ, ◌+◌, ◌-◌, Bool, true, false, ◌&&◌, ◌||◌, not, cond, nat_eq, nat_lt, List, [], ◌∷◌, ◌++◌, drop}
use Rattle.std.specs.List.{list_any}
use Rattle.feed_hold.specs.declared.Motion.{Motion}
use Rattle.feed_hold.specs.declared.Motion.TheVariants.{Idle, Run, Jog, Alarm}
use Rattle.feed_hold.specs.Motions.{asks, hold_byte, start_byte}
pub use Rattle.feed_hold.specs.Motions.{is_going, is_halting, is_limited}
use Rattle.feed_hold.specs.Motions.{Call}
use Rattle.feed_hold.specs.Motions.Call.{on_exec}
use Rattle.code_table.specs.declared.flags.Exec.{Exec}
use Rattle.outside.specs.declared.On.{On}
use Rattle.outside.specs.declared.Turn.{Turn}
use Rattle.outside.specs.declared.Turn.TheVariants.{Wait}
use Rattle.planner_runs.specs.declared.Action.TheVariants.{Add, Override}
pub use Rattle.planner_runs.specs.Moving.{has_blocks, is_full, is_slowing, has_segment}
use Rattle.run_rules.specs.declared.machine.Machine.{Machine}
use Rattle.run_rules.specs.declared.machine.Machine.TheVariants.{Stands, Runs, Jogs, Locked}
use Rattle.run_rules.specs.Locking.{locked_behind}
use Rattle.run_rules.specs.Work.{Task, has_moves}
use Rattle.run_rules.specs.Work.Task.{ask, tell, pause, normal, finish, halt}
use Rattle.run_rules.specs.Outcomes.{jogged_behind, begins_with_dollar}
use Rattle.serial_ring.specs.Logs.{has_greeted}
use Rattle.status_report.specs.Answering.{is_bye}
use Rattle.step_line.specs.Asking.Asked.{a_move, a_rest}
use Rattle.board_journal.specs.Openings.{Opening}
use Rattle.board_journal.specs.Ports.{PortStep, asks_reset, has_changes, owes_in, link_steps}
use Rattle.board_journal.specs.Ports.PortStep.{took, found_empty, found_closed, found_free, answered, reported, no_reply_room, took_exec, took_ovr, published, no_piece_room, loaded}
use Rattle.board_journal.specs.Steps.{Step, Journal, port_log, open_of, whole_of, lines_of, has_limited, left_of, plan_of, motion_of}
use Rattle.board_journal.specs.Steps.Step.{at_port, began, did, made_end, evened, paused, became, cut, halted, closing, turned}

-- the steps after the last turn's end
abbrev pub this_turn : Journal → Journal
this_turn [] = []
this_turn (at_port e ∷ h) = at_port e ∷ this_turn h
this_turn (began o ∷ h) = began o ∷ this_turn h
this_turn (did a ps ∷ h) = did a ps ∷ this_turn h
this_turn (made_end ∷ h) = made_end ∷ this_turn h
this_turn (evened ∷ h) = evened ∷ this_turn h
this_turn (paused ∷ h) = paused ∷ this_turn h
this_turn (became call m ∷ h) = became call m ∷ this_turn h
this_turn (cut k ∷ h) = cut k ∷ this_turn h
this_turn (halted ∷ h) = halted ∷ this_turn h
this_turn (closing ∷ h) = closing ∷ this_turn h
this_turn (turned t ∷ h) = []

-- a step with which the turn publishes something: the port's other side can see it
abbrev pub publishing : Step → Bool
publishing (at_port (took b)) = true
publishing (at_port (answered r)) = true
publishing (at_port (reported r)) = true
publishing (at_port (took_exec word)) = true
publishing (at_port (took_ovr word)) = true
publishing (at_port (published p)) = true
publishing _ = false

-- a byte, a reply or a piece goes on its way, or a line is begun
abbrev pub passing : Step → Bool
passing (at_port (took b)) = true
passing (at_port (answered r)) = true
passing (at_port (reported r)) = true
passing (at_port (published p)) = true
passing (began o) = true
passing _ = false

-- a step with which the turn moves: that, or a move is added
abbrev pub moving : Step → Bool
moving (did (Add m) ps) = true
moving s = passing s

-- a step that ends a turn
abbrev pub ends_turn : Step → Bool
ends_turn (turned t) = true
ends_turn _ = false

-- a poll found the link empty
abbrev pub found_nothing : Step → Bool
found_nothing (at_port found_empty) = true
found_nothing _ = false

-- a poll found no byte: the link was empty, or closed
abbrev pub found_none : Step → Bool
found_none (at_port found_empty) = true
found_none (at_port found_closed) = true
found_none _ = false

-- a byte is polled for: one is taken, or none was found
abbrev pub polls_byte : Step → Bool
polls_byte (at_port (took b)) = true
polls_byte (at_port found_empty) = true
polls_byte (at_port found_closed) = true
polls_byte _ = false

-- a reply is tried to be told: it is, or it was handed back
abbrev pub polls_room : Step → Bool
polls_room (at_port (answered r)) = true
polls_room (at_port (reported r)) = true
polls_room (at_port no_reply_room) = true
polls_room _ = false

-- a reply was handed back
abbrev pub lacks_reply_room : Step → Bool
lacks_reply_room (at_port no_reply_room) = true
lacks_reply_room _ = false

-- a piece was handed back
abbrev pub lacks_piece_room : Step → Bool
lacks_piece_room (at_port (no_piece_room done)) = true
lacks_piece_room _ = false

-- the link had room for n bytes
abbrev pub finds_free : ℕ → Step → Bool
finds_free n (at_port (found_free free)) = nat_eq n free
finds_free n _ = false

-- the done ticks were loaded
abbrev pub loads : Step → Bool
loads (at_port (loaded done)) = true
loads _ = false

-- ---- the words of flags

-- the banner was told
abbrev pub is_greeted : Journal → Bool
is_greeted h = has_greeted (link_steps (port_log h))

-- a word of requests is taken that is to be obeyed
abbrev pub takes_requests : Step → Bool
takes_requests (at_port (took_exec word)) = not (asks_reset word)
takes_requests _ = false

-- A word that asks for a reset is not obeyed: what else it asks of the motion is dropped.
abbrev pub unobeyed_at : PortStep → List Exec → List Exec
unobeyed_at (took_exec word) words = cond (asks_reset word) words (words ++ word ∷ [])
unobeyed_at e words = words

abbrev pub unobeyed_by : Call → List Exec → List Exec
unobeyed_by (on_exec word queued) words = drop 1 words
unobeyed_by call words = words

-- the words of requests that were taken, and are not obeyed yet
abbrev pub unobeyed_of : Journal → List Exec
unobeyed_of [] = []
unobeyed_of (at_port e ∷ h) = unobeyed_at e (unobeyed_of h)
unobeyed_of (became call m ∷ h) = unobeyed_by call (unobeyed_of h)
unobeyed_of (_ ∷ h) = unobeyed_of h

-- a report is owed: a word that asks for one was taken, and none was answered since
abbrev pub owes_report : Journal → Bool
owes_report h = owes_in (port_log h)

-- what a word of requests asks of the motion is done
abbrev pub obeys : Step → Bool
obeys (became (on_exec word queued) m) = true
obeys _ = false

-- a word that changes overrides is taken
abbrev pub takes_changes : Step → Bool
takes_changes (at_port (took_ovr word)) = has_changes word
takes_changes _ = false

-- the plan is made for other overrides
abbrev pub replans : Step → Bool
replans (did (Override o) ps) = true
replans _ = false

-- A word of requests is taken that lets a held machine stay so: it asks for a reset, and is not obeyed, or it asks for no start, or for a
-- hold.
abbrev pub asks_no_start : Step → Bool
asks_no_start (at_port (took_exec word)) = asks_reset word || (not (asks word start_byte) || asks word hold_byte)
asks_no_start _ = false

abbrev pub requests_at : PortStep → Bool → Bool
requests_at (took b) taken = not (nat_eq b 10) && taken
requests_at (took_exec word) taken = true
requests_at e taken = taken

abbrev pub changes_taken_at : PortStep → Bool → Bool
changes_taken_at (took b) taken = not (nat_eq b 10) && taken
changes_taken_at (took_ovr word) taken = true
changes_taken_at e taken = taken

abbrev pub by_wait : Turn → Bool → Bool
by_wait (Wait on) taken = false
by_wait t taken = taken

-- No word is taken before the banner is told: what was waited for until then does not count.
abbrev pub by_turn : (greeted : Bool) → Turn → Bool → Bool
by_turn greeted t taken = cond greeted (by_wait t taken) taken

-- the word of requests was taken since the last line was taken to its LF, and since anything was waited for behind the banner
abbrev pub requests_taken : Journal → Bool
requests_taken [] = true
requests_taken (at_port e ∷ h) = requests_at e (requests_taken h)
requests_taken (turned t ∷ h) = by_turn (is_greeted h) t (requests_taken h)
requests_taken (_ ∷ h) = requests_taken h

-- so was the word of changes of overrides
abbrev pub changes_taken : Journal → Bool
changes_taken [] = true
changes_taken (at_port e ∷ h) = changes_taken_at e (changes_taken h)
changes_taken (turned t ∷ h) = by_turn (is_greeted h) t (changes_taken h)
changes_taken (_ ∷ h) = changes_taken h

-- both were
abbrev pub flags_taken : Journal → Bool
flags_taken h = requests_taken h && changes_taken h

-- ---- what is next

-- a reply is told
abbrev pub tells_next : List Task → Bool
tells_next (tell r ∷ tasks) = true
tells_next _ = false

-- the motion is waited for: by a rest, a pause, the overrides that are set at the end of a program, the end, or a halt
abbrev pub awaits_motion : List Task → Bool
awaits_motion (ask a_rest ∷ tasks) = true
awaits_motion (pause ∷ tasks) = true
awaits_motion (normal ∷ tasks) = true
awaits_motion (finish ∷ tasks) = true
awaits_motion (halt ∷ tasks) = true
awaits_motion _ = false

-- the machine is to be halted
abbrev pub halts_next : List Task → Bool
halts_next (halt ∷ tasks) = true
halts_next _ = false

-- A machine that is held, or slows down for that, keeps these from going on: a line that was taken whole is not begun, a move
-- has no room in a full plan, and the motion is waited for.
abbrev pub needs_motion : List Task → (whole full : Bool) → Bool
needs_motion [] whole full = whole
needs_motion (ask (a_move m) ∷ tasks) whole full = full
needs_motion tasks whole full = awaits_motion tasks

-- the last that was accepted of G-code and jogs is a jog
abbrev pub has_jogged : Journal → Bool
has_jogged [] = false
has_jogged (began o ∷ h) = jogged_behind o.kind (has_jogged h)
has_jogged (_ ∷ h) = has_jogged h

-- Queued blocks start the cycle in this turn: a poll found no byte, or the link closed; the plan is full; what is next
-- waits for the motion; or they are of a jog, which starts at once.
abbrev pub starts_cycle : Opening → Journal → Bool
starts_cycle first h = list_any found_none (this_turn h) || (is_full first.blocks (plan_of h) || (awaits_motion (left_of first h) || has_jogged h))

-- they do also if a line is next that begins with `$`, before it is begun
abbrev pub starts_before_line : Opening → Journal → Bool
starts_before_line first h = starts_cycle first h || (whole_of h && begins_with_dollar (open_of h))

-- ---- the motion

-- how a line that is begun finds the machine
abbrev pub machine_in : Motion → Machine
machine_in Run = Runs
machine_in Jog = Jogs
machine_in Alarm = Locked
machine_in _ = Stands

-- the machine stands, and does not go on by itself
abbrev pub stands_still : Motion → Bool
stands_still Idle = true
stands_still Alarm = true
stands_still _ = false

-- it stands in alarm
abbrev pub is_alarm : Motion → Bool
is_alarm Alarm = true
is_alarm _ = false

-- one that was locked at the opening is so until a line unlocks it
abbrev pub is_locked : Opening → Journal → Bool
is_locked first h = locked_behind (is_limited first.motion) (lines_of h)

-- such a line was begun, and it stands in alarm still, for nothing else
abbrev pub awaits_unlock : Opening → Journal → Bool
awaits_unlock first h = is_alarm (motion_of first h) && (not (is_locked first h) && not (has_limited h))

-- a line may be begun
abbrev pub begins_in : Motion → Bool
begins_in Idle = true
begins_in Run = true
begins_in Jog = true
begins_in _ = false

-- A jog waits for its start: the machine stands, and blocks of jogs are queued, or a jog's move is to be added.
abbrev pub waits_to_jog : Motion → Bool → Bool → Bool
waits_to_jog Idle jogged some = jogged && some
waits_to_jog m jogged some = false

abbrev pub has_jog_to_start : Opening → Journal → Bool
has_jog_to_start first h = waits_to_jog (motion_of first h) (has_jogged h) (has_blocks (plan_of h).blocks || has_moves (left_of first h))

-- a segment is due now
abbrev pub is_due : Opening → Journal → Bool
is_due first h = has_segment (motion_of first h) (plan_of h)

-- a machine that is held, or slows down for that, keeps what is next from going on
abbrev pub is_held_up : Opening → Journal → Bool
is_held_up first h = needs_motion (left_of first h) (whole_of h) (is_full first.blocks (plan_of h))

-- ---- from turn to turn

abbrev pub reply_back_at : PortStep → (owes : Bool) → Bool → Bool
reply_back_at (answered r) owes back = false
reply_back_at no_reply_room owes back = not owes || back
reply_back_at (published p) owes back = owes && back
reply_back_at (no_piece_room done) owes back = owes && back
reply_back_at e owes back = back

-- A reply that is no report was handed back, and since then none was told, and no piece was tried to be published: the one that is next
-- waits for room. While a report is owed it is the report that is handed back, and that a piece is tried behind.
abbrev pub is_reply_back : Journal → Bool
is_reply_back [] = false
is_reply_back (at_port e ∷ h) = reply_back_at e (owes_report h) (is_reply_back h)
is_reply_back (_ ∷ h) = is_reply_back h

abbrev pub report_back_at : PortStep → (owes : Bool) → Bool → Bool
report_back_at (reported r) owes back = false
report_back_at no_reply_room owes back = owes || back
report_back_at (published p) owes back = false
report_back_at (no_piece_room done) owes back = false
report_back_at e owes back = back

-- a report was handed back, and since then none was told, and no piece was tried to be published: the one that is owed waits for room
abbrev pub is_report_back : Journal → Bool
is_report_back [] = false
is_report_back (at_port e ∷ h) = report_back_at e (owes_report h) (is_report_back h)
is_report_back (_ ∷ h) = is_report_back h

-- replies alone are left of a line, or nothing; Bye is none of a line
abbrev pub only_replies : List Task → Bool
only_replies [] = true
only_replies (tell r ∷ tasks) = not (is_bye r) && only_replies tasks
only_replies _ = false

-- A try to publish a piece is counted by what is left to do: nothing is, or replies of a line, of which the next was not handed back.
abbrev pub counts_tries : List Task → (back : Bool) → Bool
counts_tries [] back = true
counts_tries tasks back = not back && only_replies tasks

-- A try to publish a piece is counted, unless the board waits: for room, behind a report or a reply that was handed back, once each time;
-- for a machine that is held, or slows down for that, with a line that is to be begun; or with what else is left to do of a line than
-- replies, or to close the run.
abbrev pub is_counted : Opening → Journal → Bool
is_counted first h =
    not (owes_report h && is_report_back h) && (not (is_halting (motion_of first h) && whole_of h) && counts_tries (left_of first h) (not (owes_report h) && is_reply_back h))

-- more than three tasks are left
abbrev pub are_many : List Task → Bool
are_many (s ∷ t ∷ u ∷ v ∷ tasks) = true
are_many _ = false

-- A reply that is none of a line's last three takes a try back once it is told, where more than one was counted.
abbrev pub tries_at : PortStep → (left : List Task) → (counted : Bool) → ℕ → ℕ
tries_at (took b) left counted n = 0
tries_at found_empty left counted n = 0
tries_at found_closed left counted n = 0
tries_at (answered r) left counted n = cond (are_many left && nat_lt 1 n) (n - 1) n
tries_at (published p) left counted n = cond counted (n + 1) n
tries_at (no_piece_room done) left counted n = cond counted (n + 1) n
tries_at e left counted n = n

-- How many tries to publish a piece were counted since the last poll for a byte, less one for each reply that was told since and is none of
-- a line's last three; but one is left.
abbrev pub tries_of : Opening → Journal → ℕ
tries_of first [] = 0
tries_of first (at_port e ∷ h) = tries_at e (left_of first h) (is_counted first h) (tries_of first h)
tries_of first (_ ∷ h) = tries_of first h

-- so many tries at most come between two polls
abbrev pub most_tries : ℕ
most_tries = 5

abbrev pub missed_at : PortStep → Bool → Bool
missed_at (published p) missed = false
missed_at (no_piece_room done) missed = false
missed_at e missed = missed

-- since the last line was begun, a segment was due at each turn's end, and there was no try to publish one
abbrev pub missed_of : Opening → Journal → Bool
missed_of first [] = false
missed_of first (at_port e ∷ h) = missed_at e (missed_of first h)
missed_of first (began o ∷ h) = true
missed_of first (turned t ∷ h) = missed_of first h && is_due first h
missed_of first (_ ∷ h) = missed_of first h

abbrev pub waits_at : PortStep → List On → List On
waits_at (published p) waits = []
waits_at (no_piece_room done) waits = []
waits_at e waits = waits

abbrev pub waits_by : Turn → List On → List On
waits_by (Wait on) waits = on ∷ waits
waits_by t waits = waits

-- what was waited for since a piece was last tried to be published
abbrev pub waits_of : Journal → List On
waits_of [] = []
waits_of (at_port e ∷ h) = waits_at e (waits_of h)
waits_of (turned t ∷ h) = waits_by t (waits_of h)
waits_of (_ ∷ h) = waits_of h

abbrev pub begun_at : PortStep → ℕ → ℕ
begun_at (published p) n = 0
begun_at (no_piece_room done) n = 0
begun_at e n = n

-- how many lines were begun since the last try to publish a piece, and since no segment was due last
abbrev pub begun_while_due : Opening → Journal → ℕ
begun_while_due first [] = 0
begun_while_due first (at_port e ∷ h) = begun_at e (begun_while_due first h)
begun_while_due first (began o ∷ h) = cond (is_due first h) (begun_while_due first h) 0 + 1
begun_while_due first (turned t ∷ h) = cond (is_due first h) (begun_while_due first h) 0
begun_while_due first (_ ∷ h) = begun_while_due first h

-- what was waited for since the last try to publish a piece, and since no segment was due last
abbrev pub waits_while_due : Opening → Journal → List On
waits_while_due first [] = []
waits_while_due first (at_port e ∷ h) = waits_at e (waits_while_due first h)
waits_while_due first (turned t ∷ h) = cond (is_due first h) (waits_by t (waits_while_due first h)) []
waits_while_due first (_ ∷ h) = waits_while_due first h
