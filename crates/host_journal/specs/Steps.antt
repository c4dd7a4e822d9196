-- What a host has done, the latest first: at its port, and by itself.
use Rattle.std.specs.Prelude.{ℕ, ◌+◌, Bool, true, false, not, ◌&&◌, ◌||◌, cond, List, [], ◌∷◌, ◌++◌, length, take, drop, nat_eq, nat_lt}
use Rattle.std.specs.List.{count_by, list_any}
use Rattle.run_rules.specs.Readings.{largest_job}
use Rattle.run_rules.specs.Told.{replies_text, errors_among}
use Rattle.run_rules.specs.Work.{is_limit}
use Rattle.serial_ring.specs.Lists.{has_banner}
use Rattle.status_report.specs.declared.Reply.{Reply}
use Rattle.outside.specs.declared.Turn.{Turn}
use Rattle.host_journal.specs.declared.Reading.{Reading}
use Rattle.host_journal.specs.declared.Reading.TheVariants.{Ended, Failed, Large, Stopped}
use Rattle.host_journal.specs.declared.Stop.{Stop}
use Rattle.host_journal.specs.declared.asking.Asking.{Asking}
use Rattle.host_journal.specs.declared.asking.Asking.TheVariants.{Nothing, Awaits, HasOne, AsksAgain}
use Rattle.host_journal.specs.declared.Stop.TheVariants.{End, LongLine, TooLarge, Alarm}
use Rattle.code_table.specs.Tables.{query}
use Rattle.status_report.specs.Answering.{answers_in, is_banner, banners_in, is_bye, is_report}
use Rattle.host_journal.specs.Jobs.{resume, is_reset, lacks_banner, is_long, sent_text, served}
use Rattle.host_journal.specs.Holding.{held_after, pauses, resumed_after}

-- what a host does at its port
pub data PortStep : Type 0 where
  stored : ℕ → PortStep
  dropped : ℕ → PortStep
  -- a realtime byte, and whether its flag was found down
  raised : ℕ → Bool → PortStep
  got : Reply → PortStep
  no_reply : PortStep
  -- a mark was stored behind the bytes so far
  marked : PortStep
  shut : PortStep

-- all steps at the port, the latest first
abbrev pub HostLog : Type 0
HostLog = List PortStep

-- what a host does, at its port and by itself
pub data Step : Type 0 where
  at_port : PortStep → Step
  -- a read of the job gave these bytes, found its end, or failed
  read_some : List ℕ → Step
  read_end : Step
  read_failed : Step
  -- the next byte that was read is fed to the stripper
  scanned : ℕ → Step
  -- the last line of the job has no LF
  line_over : Step
  -- so many bytes of the replies' text were written
  wrote : ℕ → Step
  -- a write failed
  gave_up : Step
  turned : Turn → Step
  -- the sender stands by: nothing is done before it
  attends : Step

-- all steps, the latest first
abbrev pub Journal : Type 0
Journal = List Step

-- the steps at the port alone
abbrev pub port_log : Journal → HostLog
port_log [] = []
port_log (at_port e ∷ h) = e ∷ port_log h
port_log (_ ∷ h) = port_log h

-- the sender stands by, as the first step says
abbrev pub is_attended : Journal → Bool
is_attended [] = false
is_attended (attends ∷ h) = true
is_attended (_ ∷ h) = is_attended h

-- what a host has done that is new
abbrev pub beginning : (attended : Bool) → Journal
beginning true = attends ∷ []
beginning false = []

-- ---- projections of the port's log

-- the bytes stored
abbrev pub stored_in : HostLog → List ℕ
stored_in [] = []
stored_in (stored b ∷ h) = stored_in h ++ b ∷ []
stored_in (_ ∷ h) = stored_in h

-- the replies got
abbrev pub got_in : HostLog → List Reply
got_in [] = []
got_in (got r ∷ h) = got_in h ++ r ∷ []
got_in (_ ∷ h) = got_in h

-- the link was closed
abbrev pub is_shut_in : HostLog → Bool
is_shut_in [] = false
is_shut_in (shut ∷ h) = true
is_shut_in (_ ∷ h) = is_shut_in h

-- the replies got, the latest first
abbrev pub latest_got : HostLog → List Reply
latest_got [] = []
latest_got (got r ∷ h) = r ∷ latest_got h
latest_got (_ ∷ h) = latest_got h

-- the marks stored, by how many bytes were stored before each, the latest first; they are numbered from 1 in their order
abbrev pub marks_in : HostLog → List ℕ
marks_in [] = []
marks_in (marked ∷ h) = length (stored_in h) ∷ marks_in h
marks_in (_ ∷ h) = marks_in h

-- those that were stored when each Banner was got, the latest Banner first
abbrev pub marks_at_banners : HostLog → List (List ℕ)
marks_at_banners [] = []
marks_at_banners (got r ∷ h) = cond (is_banner r) (marks_in h ∷ marks_at_banners h) (marks_at_banners h)
marks_at_banners (_ ∷ h) = marks_at_banners h

-- how many bytes were stored when each Banner was got, the latest first
abbrev pub stored_at_banners : HostLog → List ℕ
stored_at_banners [] = []
stored_at_banners (got r ∷ h) = cond (is_banner r) (length (stored_in h) ∷ stored_at_banners h) (stored_at_banners h)
stored_at_banners (_ ∷ h) = stored_at_banners h

-- how many resets were raised
abbrev pub resets_in : HostLog → ℕ
resets_in [] = 0
resets_in (raised b down ∷ h) = cond (is_reset b) (resets_in h + 1) (resets_in h)
resets_in (_ ∷ h) = resets_in h

-- a reply begins an epoch: it is a Banner, and none of the run's first
abbrev pub begins : Reply → HostLog → Bool
begins r h = is_banner r && has_banner (latest_got h)

-- the same as of the port's log
abbrev pub stored_of : Journal → List ℕ
stored_of h = stored_in (port_log h)

abbrev pub got_of : Journal → List Reply
got_of h = got_in (port_log h)

abbrev pub is_shut : Journal → Bool
is_shut h = is_shut_in (port_log h)

-- Bye was got
abbrev pub has_bye : Journal → Bool
has_bye h = list_any is_bye (got_of h)

-- a reply was got: the banner comes first
abbrev pub is_greeted : Journal → Bool
is_greeted h = nat_lt 0 (length (got_of h))

-- how many answers were got
abbrev pub answered_of : Journal → ℕ
answered_of h = answers_in (got_of h)

-- how many of them are errors
abbrev pub errors_of : Journal → ℕ
errors_of h = errors_among (got_of h)

-- how many Banners were got
abbrev pub banners_of : Journal → ℕ
banners_of h = banners_in (latest_got (port_log h))

abbrev pub marks_of : Journal → List ℕ
marks_of h = marks_in (port_log h)

abbrev pub resets_of : Journal → ℕ
resets_of h = resets_in (port_log h)

-- a Banner is awaited: a reset was raised, and the Banner that it waits for was not got
abbrev pub awaits_banner : Journal → Bool
awaits_banner h = lacks_banner (resets_of h) (banners_of h)

-- ---- the polls, and what is raised

-- so many polls in a row that find no reply are enough for the host to resume the machine by itself
abbrev pub empty_polls : ℕ
empty_polls = 4096

-- half as many are enough for it to read on where the machine may be held
abbrev pub held_polls : ℕ
held_polls = 2048

-- so many are enough for an attended host to read on where a `~` may have come too early
abbrev pub long_polls : ℕ
long_polls = 32768

-- A host resumes the machine by itself, behind so many polls: one whose sender stands by does so only once its link is closed, since
-- the sender has gone then.
abbrev pub resumes_behind : (attended closed : Bool) → ℕ → Bool
resumes_behind attended closed polls = (not attended || closed) && nat_eq polls empty_polls

abbrev pub polls_at : PortStep → (attended closed : Bool) → ℕ → ℕ
polls_at (raised b down) attended closed polls = cond (resumes_behind attended closed polls) 0 polls
polls_at (got r) attended closed polls = 0
polls_at no_reply attended closed polls = polls + 1
polls_at shut attended closed polls = cond attended 0 polls
polls_at e attended closed polls = polls

-- The polls that found no reply since the last that found one, or that the host answered with a resume; in an attended run those
-- behind the closing of the link are counted anew.
abbrev pub polls_of : Journal → ℕ
polls_of [] = 0
polls_of (at_port e ∷ h) = polls_at e (is_attended h) (is_shut h) (polls_of h)
polls_of (_ ∷ h) = polls_of h

-- what is raised next is a resume of the host's own
abbrev pub resumes_next : Journal → Bool
resumes_next h = resumes_behind (is_attended h) (is_shut h) (polls_of h)

-- the bytes that were raised
abbrev pub bytes_raised_in : HostLog → List ℕ
bytes_raised_in [] = []
bytes_raised_in (raised b down ∷ h) = bytes_raised_in h ++ b ∷ []
bytes_raised_in (_ ∷ h) = bytes_raised_in h

-- those among them that stood in a line
abbrev pub line_raises_of : Journal → List ℕ
line_raises_of [] = []
line_raises_of (at_port (raised b down) ∷ h) = cond (resumes_next h) (line_raises_of h) (line_raises_of h ++ b ∷ [])
line_raises_of (_ ∷ h) = line_raises_of h

-- the number of the others
abbrev pub resumes_of : Journal → ℕ
resumes_of [] = 0
resumes_of (at_port (raised b down) ∷ h) = cond (resumes_next h) (resumes_of h + 1) (resumes_of h)
resumes_of (_ ∷ h) = resumes_of h

-- a `!` was raised, and no `~` since, nor did an epoch begin
abbrev pub holds_in : HostLog → Bool
holds_in [] = false
holds_in (raised b down ∷ h) = held_after b (holds_in h)
holds_in (got r ∷ h) = cond (begins r h) false (holds_in h)
holds_in (_ ∷ h) = holds_in h

-- all polls that found no reply
abbrev pub all_empty_in : HostLog → ℕ
all_empty_in [] = 0
all_empty_in (no_reply ∷ h) = all_empty_in h + 1
all_empty_in (_ ∷ h) = all_empty_in h

abbrev pub holds_of : Journal → Bool
holds_of h = holds_in (port_log h)

abbrev pub raises_of : Journal → List ℕ
raises_of h = bytes_raised_in (port_log h)

-- ---- what was read and scanned

-- the bytes read
abbrev pub read_of : Journal → List ℕ
read_of [] = []
read_of (read_some bytes ∷ h) = read_of h ++ bytes
read_of (_ ∷ h) = read_of h

-- how the reading goes; Stopped while it may go on
abbrev pub reading_of : Journal → Reading
reading_of [] = Stopped
reading_of (read_some bytes ∷ h) = cond (nat_lt largest_job (length (read_of h ++ bytes))) Large Stopped
reading_of (read_end ∷ h) = Ended
reading_of (read_failed ∷ h) = Failed
reading_of (_ ∷ h) = reading_of h

-- the bytes scanned
abbrev pub scanned_of : Journal → List ℕ
scanned_of [] = []
scanned_of (scanned b ∷ h) = scanned_of h ++ b ∷ []
scanned_of (_ ∷ h) = scanned_of h

-- read, and not scanned
abbrev pub unscanned_of : Journal → List ℕ
unscanned_of [] = []
unscanned_of (read_some bytes ∷ h) = unscanned_of h ++ bytes
unscanned_of (scanned b ∷ h) = drop 1 (unscanned_of h)
unscanned_of (_ ∷ h) = unscanned_of h

-- ---- the lines

-- the bytes of the line that is being scanned
abbrev pub raw_of : Journal → List ℕ
raw_of [] = []
raw_of (scanned b ∷ h) = cond (nat_eq b 10) [] (raw_of h ++ b ∷ [])
raw_of (line_over ∷ h) = []
raw_of (_ ∷ h) = raw_of h

-- the lines that were scanned whole
abbrev pub cut_of : Journal → List (List ℕ)
cut_of [] = []
cut_of (scanned b ∷ h) = cond (nat_eq b 10) (cut_of h ++ raw_of h ∷ []) (cut_of h)
cut_of (line_over ∷ h) = cut_of h ++ raw_of h ∷ []
cut_of (_ ∷ h) = cut_of h

abbrev pub left_at : PortStep → List ℕ → List ℕ
left_at (stored b) bytes = drop 1 bytes
left_at e bytes = bytes

-- what is still to be stored of the last of them
abbrev pub to_store : Journal → List ℕ
to_store [] = []
to_store (at_port e ∷ h) = left_at e (to_store h)
to_store (scanned b ∷ h) = cond (nat_eq b 10) (sent_text (raw_of h) ++ 10 ∷ []) (to_store h)
to_store (line_over ∷ h) = sent_text (raw_of h) ++ 10 ∷ []
to_store (_ ∷ h) = to_store h

-- Those of the lines that were scanned whole that are not forgotten. Where an epoch begins, each that has no answer is forgotten.
abbrev pub live_of : Journal → List (List ℕ)
live_of [] = []
live_of (at_port (got r) ∷ h) = cond (begins r (port_log h)) (take (answered_of h) (live_of h)) (live_of h)
live_of (scanned b ∷ h) = cond (nat_eq b 10) (live_of h ++ raw_of h ∷ []) (live_of h)
live_of (line_over ∷ h) = live_of h ++ raw_of h ∷ []
live_of (_ ∷ h) = live_of h

-- the lines that have no answer
abbrev pub unanswered_of : Journal → List (List ℕ)
unanswered_of h = drop (answered_of h) (live_of h)

-- how many lines are forgotten
abbrev pub forgotten_of : Journal → ℕ
forgotten_of [] = 0
forgotten_of (at_port (got r) ∷ h) = cond (begins r (port_log h)) (forgotten_of h + length (unanswered_of h)) (forgotten_of h)
forgotten_of (_ ∷ h) = forgotten_of h

-- those of the lines that are not forgotten of which a byte was stored
abbrev pub begun_of : Journal → List (List ℕ)
begun_of [] = []
begun_of (at_port (stored b) ∷ h) = live_of h
begun_of (at_port (got r) ∷ h) = cond (begins r (port_log h)) (take (answered_of h) (begun_of h)) (begun_of h)
begun_of (_ ∷ h) = begun_of h

-- ---- pauses

-- The number of the last line that asks for a pause, of those that were scanned whole since the last `~` and in this epoch, among
-- the lines that are not forgotten; 0 where none does.
abbrev pub pause_of : Journal → ℕ
pause_of [] = 0
pause_of (at_port (raised b down) ∷ h) = cond (nat_eq b resume) 0 (pause_of h)
pause_of (at_port (got r) ∷ h) = cond (begins r (port_log h)) 0 (pause_of h)
pause_of (scanned b ∷ h) = cond (nat_eq b 10) (cond (pauses (raw_of h)) (length (live_of h) + 1) (pause_of h)) (pause_of h)
pause_of (line_over ∷ h) = cond (pauses (raw_of h)) (length (live_of h) + 1) (pause_of h)
pause_of (_ ∷ h) = pause_of h

-- The number of the line whose answer shows that each hold is over which a `~` of this epoch was to end, among the lines that are not
-- forgotten; 0 where no `~` was to end one.
abbrev pub resumed_at : Journal → ℕ
resumed_at [] = 0
resumed_at (at_port (raised b down) ∷ h) = resumed_after b (holds_of h) (length (live_of h)) (pause_of h) (resumed_at h)
resumed_at (at_port (got r) ∷ h) = cond (begins r (port_log h)) 0 (resumed_at h)
resumed_at (_ ∷ h) = resumed_at h

-- ---- realtime bytes

-- the realtime bytes to be raised that a line has more with one byte more
abbrev pub more_served : List ℕ → ℕ → List ℕ
more_served raw b = drop (length (served raw)) (served (raw ++ b ∷ []))

abbrev pub due_at : PortStep → Bool → List ℕ → List ℕ
due_at (raised b down) resumes bytes = cond resumes bytes (drop 1 bytes)
due_at e resumes bytes = bytes

-- the bytes that are scanned and still to be raised
abbrev pub due_of : Journal → List ℕ
due_of [] = []
due_of (at_port e ∷ h) = due_at e (resumes_next h) (due_of h)
due_of (scanned b ∷ h) = due_of h ++ more_served (raw_of h) b
due_of (_ ∷ h) = due_of h

-- ---- reports

-- a report is asked for, the first time or again; one is got
abbrev pub asked_more : Asking → Asking
asked_more Nothing = Awaits
asked_more Awaits = Awaits
asked_more HasOne = AsksAgain
asked_more AsksAgain = AsksAgain

abbrev pub got_one : Asking → Asking
got_one Nothing = Nothing
got_one Awaits = HasOne
got_one HasOne = HasOne
got_one AsksAgain = HasOne

abbrev pub asking_at : PortStep → Asking → Asking
asking_at (raised b down) a = cond (nat_eq b query) (asked_more a) a
asking_at (got r) a = cond (is_report r) (got_one a) a
asking_at e a = a

-- Whether the line in hand has asked for a report, and whether one was got since it first did, and since it last did. It is the
-- line that is scanned, or else the last one that was scanned whole.
abbrev pub asking_of : Journal → Asking
asking_of [] = Nothing
asking_of (at_port e ∷ h) = asking_at e (asking_of h)
asking_of (scanned b ∷ h) = cond (nat_eq (length (raw_of h)) 0) Nothing (asking_of h)
asking_of (_ ∷ h) = asking_of h

-- a report was asked for, and none was got since it first was
abbrev pub is_waiting : Asking → Bool
is_waiting Nothing = false
is_waiting Awaits = true
is_waiting HasOne = false
is_waiting AsksAgain = false

-- none was got since it last was
abbrev pub is_asking : Asking → Bool
is_asking Nothing = false
is_asking Awaits = true
is_asking HasOne = false
is_asking AsksAgain = true

abbrev pub awaits_report : Journal → Bool
awaits_report h = is_waiting (asking_of h)

abbrev pub awaits_any_report : Journal → Bool
awaits_any_report h = is_asking (asking_of h)

-- ---- the end

-- the alarm of a soft limit was got
abbrev pub has_limit : Journal → Bool
has_limit h = list_any is_limit (got_of h)

-- why it sends no more of the job: by how the reading goes, the line that is being scanned, and the number of those before it
abbrev pub stop_at : Reading → List ℕ → ℕ → Stop
stop_at Large raw lines = TooLarge
stop_at _ raw lines = cond (is_long raw) (LongLine (lines + 1)) End

abbrev pub job_stop_of : Journal → Stop
job_stop_of h = stop_at (reading_of h) (raw_of h) (length (cut_of h))

-- where nothing of the job ends the sending, an alarm does: at the first line that is neither answered nor forgotten
abbrev pub or_alarm : (alarm : Bool) → (over : ℕ) → Stop → Stop
or_alarm true over End = Alarm (over + 1)
or_alarm alarm over stop = stop

-- how many lines are answered or forgotten
abbrev pub over_of : Journal → ℕ
over_of h = answered_of h + forgotten_of h

-- how many resets were scanned: those that were raised, and one that is due
abbrev pub resets_so_far : Journal → ℕ
resets_so_far h = resets_of h + count_by is_reset (due_of h)

-- why it sends no more: what the job says, or else an alarm, at the first line of the epoch without an answer
abbrev pub stop_of : Journal → Stop
stop_of h = or_alarm (has_limit h) (over_of h) (job_stop_of h)

-- ---- the console

-- the text of the replies got
abbrev pub text_of : Journal → List ℕ
text_of h = replies_text (got_of h)

-- so many bytes of it were written
abbrev pub written_of : Journal → ℕ
written_of [] = 0
written_of (wrote n ∷ h) = written_of h + n
written_of (_ ∷ h) = written_of h

-- a write failed
abbrev pub has_given_up : Journal → Bool
has_given_up [] = false
has_given_up (gave_up ∷ h) = true
has_given_up (_ ∷ h) = has_given_up h

-- ---- the turn

-- the steps of the turn that is not over
abbrev pub this_turn : Journal → Journal
this_turn [] = []
this_turn (at_port e ∷ h) = at_port e ∷ this_turn h
this_turn (read_some bytes ∷ h) = read_some bytes ∷ this_turn h
this_turn (read_end ∷ h) = read_end ∷ this_turn h
this_turn (read_failed ∷ h) = read_failed ∷ this_turn h
this_turn (scanned b ∷ h) = scanned b ∷ this_turn h
this_turn (line_over ∷ h) = line_over ∷ this_turn h
this_turn (wrote n ∷ h) = wrote n ∷ this_turn h
this_turn (gave_up ∷ h) = gave_up ∷ this_turn h
this_turn (turned t ∷ h) = []
this_turn (attends ∷ h) = []
