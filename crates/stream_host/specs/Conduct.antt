-- The rules of a host: what it may do next.
use Rattle.std.specs.Prelude.{◌≡◌, ℕ, ◌+◌, ◌≤◌, ◌<◌, ◌⊎◌, Bool, true, false, ◌||◌, List, [], ◌∷◌, length, drop, nat_eq, nat_lt}
use Rattle.std.specs.List.{list_any, count_by}
use Rattle.code_table.specs.Tables.{query}
use Rattle.run_rules.specs.Readings.{largest_job, largest_piece}
use Rattle.status_report.specs.declared.Reply.{Reply}
use Rattle.outside.specs.declared.On.TheVariants.{Answer}
use Rattle.outside.specs.declared.Turn.{Turn}
use Rattle.outside.specs.declared.Turn.TheVariants.{Did, Wait, Done}
use Rattle.host_journal.specs.declared.Reading.{Reading}
use Rattle.host_journal.specs.declared.Reading.TheVariants.{Ended, Failed, Large, Stopped}
use Rattle.host_journal.specs.Links.{on_link}
use Rattle.host_journal.specs.Jobs.{resume, cancel, is_reset, ends_sending}
use Rattle.host_journal.specs.Ports.{AnswersLines}
use Rattle.host_journal.specs.Steps.{PortStep, Step, Journal, port_log, has_limit, is_shut, has_bye, is_greeted, answered_of, marks_of, resets_of, awaits_banner, reading_of, scanned_of, unscanned_of, raw_of, live_of, unanswered_of, begun_of, to_store, due_of, awaits_report, awaits_any_report, is_attended, polls_of, held_polls, long_polls, resumes_next, holds_of, pause_of, resumed_at, text_of, written_of, has_given_up, this_turn}
use Rattle.host_journal.specs.Steps.PortStep.{stored, dropped, marked, raised, got, no_reply, shut}
use Rattle.host_journal.specs.Steps.Step.{at_port, read_some, read_end, read_failed, scanned, line_over, wrote, gave_up, turned, attends}

-- all that was got is written, but behind a write that failed
abbrev pub HasWritten : Journal → Type 0
HasWritten h = (has_given_up h ≡ true) ⊎ (written_of h ≡ length (text_of h))

-- the lines of the epoch before the one in hand are answered
abbrev pub AreAnswered : Journal → Type 0
AreAnswered h = answered_of h ≡ length (live_of h)

-- A realtime byte that is raised only once the lines of the epoch before its own are answered: a `?`, which asks for a report
-- behind them, and the cancel of a jog, so that their jogs have begun when the board takes it. In an attended run none waits.
abbrev pub waits_for_lines : ℕ → Bool
waits_for_lines b = nat_eq b query || nat_eq b cancel

-- something is awaited: the first banner, the answer to a line that was sent, a report, or the banner of a reset
abbrev pub AwaitsSome : Journal → Type 0
AwaitsSome h = (is_greeted h ≡ false) ⊎ ((0 < length (drop (answered_of h) (begun_of h))) ⊎ ((awaits_any_report h ≡ true) ⊎ (awaits_banner h ≡ true)))

-- The machine may be held: a `!` was raised and no `~` since, or a line that has no answer asks for a pause, and no `~` was
-- raised since it was scanned; and no epoch began since.
abbrev pub may_be_held : Journal → Bool
may_be_held h = holds_of h || nat_lt (answered_of h) (pause_of h)

-- the machine may be held, and so many polls in a row have found no reply
pub record SeemsHeld (h : Journal) : Type 0 where
  pub held : may_be_held h ≡ true
  pub polls : held_polls ≤ polls_of h

-- A `~` may have come too early: no answer has shown yet that the hold which it was to end is over.
abbrev pub may_be_still : Journal → Bool
may_be_still h = nat_lt (answered_of h) (resumed_at h)

-- In an attended run the machine may be held though that is not seen: a `~` was raised that may have come too early, and so many polls
-- in a row have found no reply, more than before.
pub record SeemsStill (h : Journal) : Type 0 where
  pub attended : is_attended h ≡ true
  pub still : may_be_still h ≡ true
  pub polls : long_polls ≤ polls_of h

-- the banner was got, or the board says nothing: so many polls in a row have found no reply
abbrev pub IsGreeted : Journal → Type 0
IsGreeted h = (is_greeted h ≡ true) ⊎ (held_polls ≤ polls_of h)

-- Nothing is awaited: the banner was got, and a report since the last one was asked for, and each line that was sent has its
-- answer, or the machine seems held: then the resume may stand in what was not read yet.
pub record IsSettled (h : Journal) : Type 0 where
  pub greeted : IsGreeted h
  pub reported : awaits_any_report h ≡ false
  pub answered : AreAnswered h ⊎ (SeemsHeld h ⊎ SeemsStill h)

-- The job is read on: all that was read is scanned, raised and stored, nothing is awaited but of a machine that seems held,
-- all that was got is shown, no end of the reading was met, the sending has not ended in the line that is being scanned, no
-- alarm was got, and no Banner is awaited.
pub record MayRead (h : Journal) : Type 0 where
  pub going : is_shut h ≡ false
  pub calm : has_limit h ≡ false
  pub epoch : awaits_banner h ≡ false
  pub on : reading_of h ≡ Stopped
  pub sends : ends_sending (raw_of h) ≡ false
  pub used : unscanned_of h ≡ []
  pub free : to_store h ≡ []
  pub none_due : due_of h ≡ []
  pub settled : IsSettled h
  pub shown : HasWritten h

-- The next byte that was read is scanned: no byte is to be raised, the line before its own is wholly stored, the job may
-- have so many bytes, the sending has not ended in its line, no alarm was got, and no Banner is awaited.
pub record MayScanNext (b : ℕ) (h : Journal) : Type 0 where
  pub going : is_shut h ≡ false
  pub calm : has_limit h ≡ false
  pub epoch : awaits_banner h ≡ false
  pub next : unscanned_of h ≡ b ∷ drop 1 (unscanned_of h)
  pub few : length (scanned_of h) < largest_job
  pub sends : ends_sending (raw_of h) ≡ false
  pub free : to_store h ≡ []
  pub none_due : due_of h ≡ []

-- The last line is over: the source's end was read, bytes stand behind the last LF, none is to be raised, no alarm was got, and
-- no Banner is awaited.
pub record MayEndLine (h : Journal) : Type 0 where
  pub going : is_shut h ≡ false
  pub calm : has_limit h ≡ false
  pub epoch : awaits_banner h ≡ false
  pub at_end : reading_of h ≡ Ended
  pub used : unscanned_of h ≡ []
  pub some : 0 < length (raw_of h)
  pub sends : ends_sending (raw_of h) ≡ false
  pub free : to_store h ≡ []
  pub none_due : due_of h ≡ []

-- A mark is stored: a reset is to be raised next, and its mark was not stored yet. The n-th mark is that of the n-th reset.
pub record MayMark (h : Journal) : Type 0 where
  pub calm : has_limit h ≡ false
  pub next : due_of h ≡ 0x18 ∷ drop 1 (due_of h)
  pub fresh : length (marks_of h) ≡ resets_of h

-- A realtime byte is raised: a resume where so many polls have found no reply, else the next that is due; that is a `?` or the
-- cancel of a jog only once each line of the epoch before its own is answered, and a reset only behind its mark. Behind an alarm
-- no byte of the job is raised. In an attended run the host resumes only once its link is closed, and a `?` and a cancel wait for nothing.
pub record MayRaise (b : ℕ) (h : Journal) : Type 0 where
  pub resumes : resumes_next h ≡ true → b ≡ resume
  pub calm : resumes_next h ≡ false → has_limit h ≡ false
  pub next : resumes_next h ≡ false → due_of h ≡ b ∷ drop 1 (due_of h)
  pub after : is_attended h ≡ false → waits_for_lines b ≡ true → AreAnswered h
  pub behind_mark : is_reset b ≡ true → resets_of h < length (marks_of h)

-- The next byte of the line in hand is stored: the lines that have no answer, this one among them, take no more bytes than the
-- link has room for, and where the line asked for a report, one was got since it first did. No alarm was got, and no Banner is
-- awaited.
pub record MayStore (room b : ℕ) (h : Journal) : Type 0 where
  pub calm : has_limit h ≡ false
  pub epoch : awaits_banner h ≡ false
  pub next : to_store h ≡ b ∷ drop 1 (to_store h)
  pub reported : awaits_report h ≡ false
  pub few : length (on_link (unanswered_of h)) ≤ room

-- nothing more of the job is to be scanned, nor to be made a line: by what is read and not scanned, the line that is being
-- scanned, and how many bytes are scanned
abbrev pub HasNoMore : Reading → List ℕ → List ℕ → ℕ → Type 0
HasNoMore Ended left raw n = (left ≡ []) × (raw ≡ [])
HasNoMore Failed left raw n = left ≡ []
HasNoMore Large left raw n = n ≡ largest_job
HasNoMore Stopped left raw n = ⊥

-- all that is to be sent is stored
pub record HasSentAll (h : Journal) : Type 0 where
  pub free : to_store h ≡ []
  pub all : (ends_sending (raw_of h) ≡ true) ⊎ HasNoMore (reading_of h) (unscanned_of h) (raw_of h) (length (scanned_of h))

-- the link is closed: all that is sent of the job is stored and raised, or an alarm was got; and no Banner is awaited
pub record MayShut (h : Journal) : Type 0 where
  pub going : is_shut h ≡ false
  pub epoch : awaits_banner h ≡ false
  pub sent : (has_limit h ≡ true) ⊎ HasSentAll h
  pub all_raised : (has_limit h ≡ true) ⊎ (due_of h ≡ [])

-- a reply is looked for: Bye was not got, and no resume is to be raised
pub record MayPoll (h : Journal) : Type 0 where
  pub going : has_bye h ≡ false
  pub rested : resumes_next h ≡ false

-- a reply is taken; since the last Banner of a mark no more of them are answers than lines were stored behind that mark, as the
-- port promises
pub record MayGet (r : Reply) (h : Journal) : Type 0 where
  pub poll : MayPoll h
  pub lines : AnswersLines (got r ∷ port_log h)

-- no byte is ever dropped
abbrev pub MayAtPort : ℕ → PortStep → Journal → Type 0
MayAtPort room (stored b) h = MayStore room b h
MayAtPort room (dropped b) h = ⊥
MayAtPort room marked h = MayMark h
MayAtPort room (raised b down) h = MayRaise b h
MayAtPort room (got r) h = MayGet r h
MayAtPort room no_reply h = MayPoll h
MayAtPort room shut h = MayShut h

-- more of the replies' text is written, and none behind a write that failed
pub record MayWrite (n : ℕ) (h : Journal) : Type 0 where
  pub going : has_given_up h ≡ false
  pub some : 0 < n
  pub front : written_of h + n ≤ length (text_of h)

-- a write fails only if text waits
pub record MayGiveUp (h : Journal) : Type 0 where
  pub going : has_given_up h ≡ false
  pub some : written_of h < length (text_of h)

-- ---- turns

-- a step that the other side can see
abbrev pub publishing : Step → Bool
publishing (at_port (stored b)) = true
publishing (at_port (raised b down)) = true
publishing (at_port (got r)) = true
publishing (at_port marked) = true
publishing (at_port shut) = true
publishing _ = false

-- a step with which the turn moves
abbrev pub moving : Step → Bool
moving (at_port e) = publishing (at_port e)
moving (read_some bytes) = true
moving read_end = true
moving read_failed = true
moving (scanned b) = true
moving line_over = false
moving (wrote n) = true
moving gave_up = false
moving (turned t) = false
moving attends = false

-- a reply is looked for
abbrev pub polling : Step → Bool
polling (at_port (got r)) = true
polling (at_port no_reply) = true
polling _ = false

-- a poll found nothing
abbrev pub found_none : Step → Bool
found_none (at_port no_reply) = true
found_none _ = false

-- A reply is waited for: none was found in this turn, and nothing else may be done.
pub record Waits (room : ℕ) (h : Journal) : Type 0 where
  pub poll : list_any found_none (this_turn h) ≡ true
  pub no_read : MayRead h → ⊥
  pub no_scan : (b : ℕ) → MayScanNext b h → ⊥
  pub no_line : MayEndLine h → ⊥
  pub no_mark : MayMark h → ⊥
  pub no_raise : (b : ℕ) → MayRaise b h → ⊥
  pub no_store : (b : ℕ) → MayStore room b h → ⊥
  pub no_close : MayShut h → ⊥
  pub written : HasWritten h

-- Bye was got, all is written or given up, and nothing was done in this turn
pub record IsDone (h : Journal) : Type 0 where
  pub bye : has_bye h ≡ true
  pub written : HasWritten h
  pub still : this_turn h ≡ []

-- in a turn the other side can see one step at most, and a reply is looked for once at most
pub record IsOneTurn (h : Journal) : Type 0 where
  pub once : count_by publishing (this_turn h) ≤ 1
  pub polls : count_by polling (this_turn h) ≤ 1

-- what a turn answers; one that moves nothing and answers Did lowers the host's number, as the turn says itself
abbrev pub MayTurn : ℕ → Turn → Journal → Type 0
MayTurn room Did h = IsOneTurn h
MayTurn room (Wait Answer) h = IsOneTurn h × Waits room h
MayTurn room (Wait on) h = ⊥
MayTurn room Done h = IsDone h

-- the rule of each kind of step
abbrev pub MayStep : ℕ → Step → Journal → Type 0
MayStep room (at_port e) h = MayAtPort room e h
MayStep room (read_some bytes) h = MayRead h × (0 < length bytes) × (length bytes ≤ largest_piece)
MayStep room read_end h = MayRead h
MayStep room read_failed h = MayRead h
MayStep room (scanned b) h = MayScanNext b h
MayStep room line_over h = MayEndLine h
MayStep room (wrote n) h = MayWrite n h
MayStep room gave_up h = MayGiveUp h
MayStep room (turned t) h = MayTurn room t h
MayStep room attends h = h ≡ []

-- each step of a journal might come when it came, where the link has room for so many bytes
abbrev pub Conducted : ℕ → Journal → Type 0
Conducted room [] = Unit {0}
Conducted room (s ∷ h) = MayStep room s h × Conducted room h
