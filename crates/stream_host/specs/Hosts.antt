-- What the fields of a host say of what it has done.
use Rattle.std.specs.Prelude.{◌≡◌, ◌≢◌, ℕ, ◌+◌, ◌^◌, ◌≤◌, ◌<◌, ◌⊎◌, Bool, true, false, ◌&&◌, cond, nat_lt, nat_le, List, [], ◌∷◌, ◌++◌, length, take, drop, map, reverse, sum, option_to_list, None}
use Rattle.std.specs.Io.KnownBytes.{Consumes, IsAtEnd, Keeps}
use Rattle.std.specs.List.{list_any, count_by}
use Rattle.outside.specs.Causes.{Rose, SourceState, SinkState}
use Rattle.outside.specs.Writing.{Wrote}
use Rattle.outside.specs.declared.Turn.{Turn}
use Rattle.outside.specs.declared.Turn.TheVariants.{Did}
use Rattle.text_writer.specs.Writers.{Writing, is_due, with_text, with_all_asked}
use Rattle.status_report.specs.declared.Reply.{Reply}
use Rattle.status_report.specs.Replies.{reply_text}
use Rattle.gcode_words.specs.Comments.{comment_after}
use Rattle.run_rules.specs.Readings.{largest_job, largest_piece}
use Rattle.host_journal.specs.declared.Reading.{Reading}
use Rattle.host_journal.specs.declared.Reading.TheVariants.{Ended, Failed, Large, Stopped}
use Rattle.stream_host.specs.declared.line.SentLine.{SentLine}
use Rattle.stream_host.specs.declared.reader.Reader.{Reader}
use Rattle.stream_host.specs.declared.unanswered.Unanswered.{Unanswered}
use Rattle.stream_host.specs.declared.counts.Counts.{Counts}
use Rattle.stream_host.specs.declared.resets.Resets.{Resets}
use Rattle.stream_host.specs.declared.host.Host.{Host}
use Rattle.run_rules.specs.Told.{errors_among}
use Rattle.status_report.specs.Answering.{answers_in, is_banner, is_bye}
use Rattle.std.specs.declared.option.Option.{Option}
use Rattle.host_journal.specs.Jobs.{is_long, sent_text}
use Rattle.host_journal.specs.Steps.{Step, Journal, port_log, got_of, has_limit, is_shut, has_bye, read_of, reading_of, scanned_of, unscanned_of, raw_of, cut_of, live_of, banners_of, resets_of, marks_of, to_store, due_of, asking_of, is_attended, polls_of, long_polls, resumes_next, holds_of, pause_of, resumed_at, is_greeted, text_of, written_of, has_given_up, this_turn}
use Rattle.host_journal.specs.Steps.Step.{turned, attends}
use Rattle.serial_ring.specs.Lists.{IsRoom}
use Rattle.stream_host.specs.Conduct.{Conducted, MayTurn, publishing, polling, moving, found_none}

-- ---- the piece that was read last

-- of the piece, what is not scanned
abbrev pub unread : Reader → List ℕ
unread r = drop r.place (take r.end r.bytes)

pub record IsPiece (r : Reader) : Type 0 where
  pub within : r.place ≤ r.end
  pub few : r.end ≤ largest_piece
  pub size : length r.bytes ≡ largest_piece

-- a read gave some bytes, and no call of the source failed
pub record GaveBytes (old new : Reader) (before now : SourceState) : Type 0 where
  pub some : 0 < length (unread new)
  pub few : length (unread new) ≤ largest_piece
  pub reading : new.reading ≡ cond (nat_lt largest_job (old.scanned + length (unread new))) Large old.reading
  pub piece : IsPiece new
  pub scanned : new.scanned ≡ old.scanned
  pub taken : Consumes before.left now.left (unread new)
  pub same : now.faults ≡ before.faults
  pub later : before.faults ≤ now.faults

-- a read found the end, and no call of the source failed
pub record GaveEnd (old new : Reader) (before now : SourceState) : Type 0 where
  pub none : unread new ≡ []
  pub reading : new.reading ≡ Ended
  pub piece : IsPiece new
  pub scanned : new.scanned ≡ old.scanned
  pub taken : Consumes before.left now.left []
  pub at_end : IsAtEnd now.left
  pub same : now.faults ≡ before.faults
  pub later : before.faults ≤ now.faults

-- a read failed
pub record GaveNone (old new : Reader) (before now : SourceState) : Type 0 where
  pub none : unread new ≡ []
  pub reading : new.reading ≡ Failed
  pub piece : IsPiece new
  pub scanned : new.scanned ≡ old.scanned
  pub taken : Keeps before.left now.left
  pub rose : Rose before.faults now.faults
  pub later : before.faults ≤ now.faults

-- ---- the line in hand

-- what a line takes on the link: what is sent of it, and LF
abbrev pub line_length : List ℕ → ℕ
line_length line = length (sent_text line) + 1

-- what has come of a line with these bytes
pub record HasLine (l : SentLine) (raw : List ℕ) : Type 0 where
  pub stripper : l.stripper ≡ comment_after raw
  pub kept : l.kept.items ≡ take 127 (sent_text raw)
  pub long : l.long ≡ is_long raw
  pub begun : l.begun ≡ nat_lt 0 (length raw)

-- it is too long, so that the sending ends in it
abbrev pub is_too_long : SentLine → Bool
is_too_long l = l.long

-- ---- the lines that have no answer

-- their lengths, the oldest first
abbrev pub lengths : Unanswered → List ℕ
lengths u = reverse u.older.items ++ u.newer.items

abbrev pub IsSummed : Unanswered → Type 0
IsSummed u = u.total ≡ sum (lengths u)

-- ---- a host

-- the job, by what is read and not scanned, how the reading goes, and how many bytes are scanned
pub record KeepsJob (r : Reader) (left : List ℕ) (reading : Reading) (n : ℕ) : Type 0 where
  pub piece : IsPiece r
  pub left_is : unread r ≡ left
  pub reading_is : r.reading ≡ reading
  pub scanned_is : r.scanned ≡ n

-- a whole line that is being stored: from a place on it is left
pub record IsStoring (l : SentLine) (raw left : List ℕ) : Type 0 where
  pub none : raw ≡ []
  pub sends : is_too_long l ≡ false
  pub within : l.place ≤ length l.kept.items
  pub left_is : left ≡ drop l.place (l.kept.items ++ 10 ∷ [])

-- the line in hand, by the bytes that are scanned of it, and what is still to be stored
pub record KeepsLine (l : SentLine) (raw left : List ℕ) : Type 0 where
  pub scanning : l.whole ≡ false → HasLine l raw × (left ≡ [])
  pub storing : l.whole ≡ true → IsStoring l raw left

-- the byte that is to be raised
abbrev pub KeepsDue : Option ℕ → List ℕ → Type 0
KeepsDue l due = option_to_list l ≡ due

-- the polls in a row that found no reply, as far as their number tells more; one more may be made, since no resume is to be raised
pub record KeepsPolls (count polls : ℕ) (resumes : Bool) : Type 0 where
  pub polls_are : count ≡ cond (nat_lt polls long_polls) polls long_polls
  pub rested : resumes ≡ false

-- the counts, by the lines that are not forgotten, and the replies
pub record KeepsCounts (c : Counts) (live : List (List ℕ)) (got : List Reply) : Type 0 where
  pub unanswered_are : lengths c.unanswered ≡ map line_length (drop (answers_in got) live)
  pub summed : IsSummed c.unanswered
  pub lines_are : c.lines ≡ length live
  pub answered_is : c.answered ≡ answers_in got
  pub errors_are : c.errors ≡ errors_among got

-- the resets, by how many were raised, how many Banners were got, and how many marks were stored
pub record KeepsResets (r : Resets) (raised banners marks : ℕ) : Type 0 where
  pub raised_is : r.raised ≡ raised
  pub banners_are : r.banners ≡ banners
  pub marked_is : r.marked ≡ nat_lt raised marks

-- the console, by the text of the replies, how much of it is written, whether a write failed, and whether Bye was got
pub record KeepsText (w : Writing) (text : List ℕ) (written : ℕ) (given_up bye : Bool) : Type 0 where
  pub failed_is : w.failed ≡ given_up
  pub waits : w.failed ≡ false → w.waiting ≡ drop written text
  pub within : written ≤ length text
  pub all_asked : bye ≡ true → w.asked ≡ true

-- a job whose end was found has no byte and no line left
abbrev pub HasNone : List ℕ → List ℕ → Type 0
HasNone left raw = (left ≡ []) × (raw ≡ [])

-- What the fields of a host keep of all that it did, which its rules allow, at a link that has room for so many bytes.
pub record HostFits (room : ℕ) (host : Host) (h : Journal) : Type 0 where
  pub sized : IsRoom room
  pub room_is : host.room ≡ room
  pub attended_is : host.attended ≡ is_attended h
  pub conducted : Conducted room h
  pub job_is : KeepsJob host.job (unscanned_of h) (reading_of h) (length (scanned_of h))
  pub line_is : KeepsLine host.line (raw_of h) (to_store h)
  pub due_is : KeepsDue host.line.due (due_of h)
  pub asking_is : host.asking ≡ asking_of h
  pub counts_are : KeepsCounts host.counts (live_of h) (got_of h)
  pub all_are : host.counts.all ≡ length (cut_of h)
  pub resets_are : KeepsResets host.resets (resets_of h) (banners_of h) (length (marks_of h))
  pub polls_are : KeepsPolls host.polls (polls_of h) (resumes_next h)
  pub held_is : host.held ≡ holds_of h
  pub resumed_is : host.resumed_at ≡ resumed_at h
  pub pause_is : host.counts.pause_at ≡ pause_of h
  pub greeted_is : host.greeted ≡ is_greeted h
  pub alarm_is : host.alarm ≡ has_limit h
  pub text_is : KeepsText host.text (text_of h) (written_of h) (has_given_up h) (has_bye h)
  pub shut_is : host.shut ≡ is_shut h
  pub bye_is : host.bye ≡ has_bye h
  pub over : reading_of h ≡ Ended → HasNone (unscanned_of h) (raw_of h)

-- ---- a turn

-- between two turns
abbrev pub IsBetween : Journal → Type 0
IsBetween h = this_turn h ≡ []

-- nothing was published in this turn yet
abbrev pub NothingPublished : Journal → Type 0
NothingPublished h = count_by publishing (this_turn h) ≡ 0

-- a poll found no reply in this turn, no other was made, and nothing was published
pub record HasPolled (h : Journal) : Type 0 where
  pub poll : list_any found_none (this_turn h) ≡ true
  pub once : count_by polling (this_turn h) ≤ 1
  pub quiet : NothingPublished h

-- a step ends a turn, or stands before all of them
abbrev pub ends_turn : Step → Bool
ends_turn (turned t) = true
ends_turn attends = true
ends_turn _ = false

-- the number of a host, which falls where a turn does something and moves nothing
abbrev pub rank : Host → ℕ
rank host = cond host.text.failed 0 1

-- What was done in a turn: the host keeps it, it allows the answer, and where the host answers Did, something moves or its
-- number falls.
pub record HostWorked (room : ℕ) (t : Turn) (old new : Host) (h next : Journal) : Type 0 where
  pub fits : HostFits room new next
  pub steps : List Step
  pub are : next ≡ steps ++ h
  pub inner : list_any ends_turn steps ≡ false
  pub may : MayTurn room t next
  pub moves : t ≡ Did → (list_any moving steps ≡ true) ⊎ (rank new < rank old)

-- a turn adds what was done in it, which ends no other turn, and its answer
pub record HostTurned (t : Turn) (old new : Host) (h next : Journal) : Type 0 where
  pub steps : List Step
  pub are : next ≡ turned t ∷ (steps ++ h)
  pub inner : list_any ends_turn steps ≡ false
  pub moves : t ≡ Did → (list_any moving steps ≡ true) ⊎ (rank new < rank old)

-- ---- what a host tells of its devices

-- The source gave what was read since a moment. Where a read failed, the count of faults rose; where none did, it is as
-- before.
pub record TellsJob (h : Journal) (before now : SourceState) : Type 0 where
  pub taken : Consumes before.left now.left (read_of h)
  pub at_end : reading_of h ≡ Ended → IsAtEnd now.left
  pub later : before.faults ≤ now.faults
  pub cause : reading_of h ≡ Failed → Rose before.faults now.faults
  pub same : reading_of h ≢ Failed → now.faults ≡ before.faults

-- the console was given the text of the replies since a moment, as far as it does not wait
abbrev pub TellsText : Writing → Journal → SinkState → SinkState → Type 0
TellsText w h before now = Wrote before now w.failed w.waiting (text_of h)

-- from one moment to the next a host tells as much of its devices, whatever the moment it began at
pub record HostTellsOn (old new : Host) (h next : Journal) (job_now job_later : SourceState) (now later : SinkState) : Type 0 where
  pub job : (before : SourceState) → TellsJob h before job_now → TellsJob next before job_later
  pub console : (before : SinkState) → TellsText old.text h before now → TellsText new.text next before later

-- ---- what is done in a turn

-- What a host did by itself: it keeps it, the port knows nothing of it, nothing is published by it, and something moves or
-- the host's number falls.
pub record DidAlone (room : ℕ) (old new : Host) (h next : Journal) : Type 0 where
  pub fits : HostFits room new next
  pub steps : List Step
  pub are : next ≡ steps ++ h
  pub inner : list_any ends_turn steps ≡ false
  pub port : port_log next ≡ port_log h
  pub quiet : NothingPublished h → NothingPublished next
  pub looks : count_by polling (this_turn next) ≡ count_by polling (this_turn h)
  pub moves : (list_any moving steps ≡ true) ⊎ (rank new < rank old)

-- a line more may be counted
pub record HasRoom (c : Counts) : Type 0 where
  pub few : length (lengths c.unanswered) < 256
  pub small : c.unanswered.total ≤ 255
  pub summed : IsSummed c.unanswered
  pub lines : c.lines + 1 < 2 ^ 32
  pub all : c.all + 1 < 2 ^ 32

-- the next byte may be scanned
pub record MayScanOn (host : Host) : Type 0 where
  pub scanning : host.line.whole ≡ false
  pub sends : is_too_long host.line ≡ false
  pub none_due : host.line.due ≡ None
  pub some : host.job.place < host.job.end
  pub few : host.job.scanned < largest_job

-- the piece and the line let the job be read on
pub record MayReadOn (host : Host) : Type 0 where
  pub scanning : host.line.whole ≡ false
  pub sends : is_too_long host.line ≡ false
  pub none_due : host.line.due ≡ None
  pub used : host.job.end ≤ host.job.place
  pub on : host.job.reading ≡ Stopped

-- the text is asked for, and nothing of it waits for the console, or the console has failed
pub record HasShown (w : Writing) : Type 0 where
  pub asked : w.asked ≡ true
  pub none : is_due w ≡ false

-- the text of a reply waits, and all of it is asked for behind the last reply
abbrev pub shown : Writing → Reply → Writing
shown w r = cond (is_bye r) (with_all_asked (with_text w (reply_text r))) (with_text w (reply_text r))

-- a host that has got Bye and shown all
pub record HostRests (host : Host) : Type 0 where
  pub bye : host.bye ≡ true
  pub none : is_due host.text ≡ false

-- ---- resets

-- a Banner is awaited
abbrev pub awaits_by : Resets → Bool
awaits_by r = nat_lt 0 r.raised && nat_le r.banners r.raised

-- a reply begins an epoch
abbrev pub begins_by : Resets → Reply → Bool
begins_by r reply = is_banner reply && nat_lt 0 r.banners

-- a reply is got
abbrev pub with_banner : Resets → Reply → Resets
with_banner r reply = record r { banners = cond (is_banner reply) (r.banners + 1) r.banners }
