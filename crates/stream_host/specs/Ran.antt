-- What a host has done in a whole run, and so far, on plain lists.
use Rattle.std.specs.Prelude.{◌≡◌, ℕ, ◌+◌, ◌≤◌, ◌<◌, ◌⊎◌, Bool, true, false, not, ◌&&◌, ◌||◌, cond, List, [], ◌∷◌, ◌++◌, length, take, drop, reverse}
use Rattle.std.specs.List.{count_by, list_any}
use Rattle.std.specs.Io.KnownBytes.{Consumes, IsAtEnd}
use Rattle.outside.specs.Causes.{Rose, SourceState, SinkState}
use Rattle.outside.specs.Writing.{Wrote, Took}
use Rattle.run_rules.specs.Lines.{CutsInto, lines_of}
use Rattle.run_rules.specs.Reports.{AreReported}
use Rattle.run_rules.specs.Told.{replies_text, errors_among}
use Rattle.status_report.specs.declared.Reply.{Reply}
use Rattle.host_journal.specs.declared.Reading.{Reading}
use Rattle.host_journal.specs.declared.Reading.TheVariants.{Ended, Failed, Large, Stopped}
use Rattle.host_journal.specs.declared.Stop.{Stop}
use Rattle.host_journal.specs.Links.{on_link}
use Rattle.status_report.specs.Answering.{answers_in, is_bye, banners_in}
use Rattle.host_journal.specs.Jobs.{resume, cancels_in, is_cancel, is_reset, is_long, marks_behind, resets_scanned, lacks_banner, served, served_in, stop_by, IsSent, IsSentSoFar}
use Rattle.run_rules.specs.Work.{is_limit}
use Rattle.host_journal.specs.Steps.{Journal, stored_of, marks_of, line_raises_of, has_bye, answered_of, errors_of, read_of, reading_of, scanned_of, cut_of, or_alarm, stop_of, text_of, written_of, has_given_up}
use Rattle.stream_host.specs.Conduct.{HasWritten}
use Rattle.stream_host.specs.Epochs.{Epoch, AreEnds, AreEpochs}

-- what a host tells at its end: why it sent no more; how many lines were answered, and how many of these with an error;
-- whether a read of the job failed, and a write of the console
pub record HostEnd : Type 0 where
  pub stop : Stop
  pub answered : ℕ
  pub errors : ℕ
  pub source_failed : Bool
  pub console_failed : Bool

abbrev pub is_failed : Reading → Bool
is_failed Ended = false
is_failed Failed = true
is_failed Large = false
is_failed Stopped = false

-- The realtime bytes that were raised, and those that still are to be, are those of what was scanned, and so many resumes
-- of the host's own.
abbrev pub AreRaised : List ℕ → List ℕ → List ℕ → ℕ → Type 0
AreRaised scanned raised due resumes =
    (p : ℕ → Bool) → count_by p raised + count_by p due ≡ count_by p (served_in scanned) + cond (p resume) resumes 0

-- all that is sent of the job is raised and stored: the link is closed, and no alarm was got that ends the run
abbrev pub is_sent_out : Bool → List Reply → Bool
is_sent_out shut got = shut && not (list_any is_limit got)

-- All that was cut of the job is stored, and all that was scanned raised: all that is sent is, or the Banner of a reset that was raised
-- is lacking.
abbrev pub is_out : Bool → List ℕ → List Reply → Bool
is_out shut raised got = is_sent_out shut got || lacks_banner (count_by is_reset raised) (banners_in got)

-- the last byte of a line that is not too long is a reset
pub record EndsInReset (line : List ℕ) : Type 0 where
  pub front : List ℕ
  pub byte : ℕ
  pub is : line ≡ front ++ byte ∷ []
  pub reset : count_by is_reset (served front) < count_by is_reset (served line)
  pub short : is_long line ≡ false

-- How the resets that were scanned wait for their Banners, of which so many were got: each but the first is scanned once the Banner
-- of the one before was got. Where that of the last is lacking, this reset is the last byte that was scanned, and its line is not cut.
pub record AreAwaited (scanned : List ℕ) (lines : List (List ℕ)) (banners : ℕ) : Type 0 where
  pub raw : List ℕ
  pub cut : CutsInto scanned lines raw ⊎ ((lines_of scanned ≡ lines) × (raw ≡ []))
  pub in_turn : 1 < resets_scanned scanned → resets_scanned scanned ≤ banners
  pub last : lacks_banner (resets_scanned scanned) banners ≡ true → EndsInReset raw

-- each mark, by how many bytes were stored before it, stands at a border of these lines
abbrev pub AreBorders : List ℕ → List (List ℕ) → Type 0
AreBorders [] lines = Unit {0}
AreBorders (bytes ∷ marks) lines = ((n : ℕ) × (n ≤ length lines) × (bytes ≡ length (on_link (take n lines)))) × AreBorders marks lines

-- The marks stored, the latest first, are those of the resets of what was scanned; the last may not be stored yet.
pub record AreMarks (marks scanned : List ℕ) : Type 0 where
  pub left : List ℕ
  pub are : reverse marks ++ left ≡ marks_behind 0 (lines_of scanned)
  pub few : length left ≤ 1

-- A host has run: it read a job so far, raised its realtime bytes but for those that are due, stored a front of its lines,
-- stored marks at borders of its lines, closed the link or not, and got replies up to Bye. Some of its lines are forgotten, the
-- others live: in each of its epochs that is over, the lines without an answer are forgotten, which the link has room for, each
-- with its LF, and it ends at its mark; the latest mark may have no Banner yet. Why it sent no more is what the job says, or
-- else an alarm, at the first line that is neither answered nor forgotten. Where the link is closed and no alarm was got, all
-- that is sent of the job is raised and stored; so is all that was cut and scanned where the Banner of a reset is lacking; and
-- the lines that live and have no answer fit on the link then, each with its LF. If the run is not attended, no cancel of a jog
-- is raised behind the first line that is neither answered nor forgotten, since it waits for the answers to the lines before
-- its own, and each line that asks for a report and is answered has one, behind the answers to the lines before it. The console
-- has the text of the replies, all of it where no write failed. The source's count of faults rose where a read failed, and is
-- as before where none did.
pub record HostRan (attended : Bool) (room : ℕ) (job_was job_is : SourceState) (console_was console_is : SinkState) (stored marks : List ℕ) (shut : Bool) (raised : List ℕ) (got : List Reply) (end : HostEnd) : Type 0 where
  pub read : List ℕ
  pub reading : Reading
  pub scanned : List ℕ
  pub lines : List (List ℕ)
  pub taken : Consumes job_was.left job_is.left read
  pub at_end : reading ≡ Ended → IsAtEnd job_is.left
  pub live : List (List ℕ)
  pub forgotten : ℕ
  pub all : length lines ≡ length live + forgotten
  pub ended : List Epoch
  pub now : Epoch
  pub epochs : AreEpochs room lines live got ended now
  pub ends : AreEnds marks ended ⊎ AreEnds (drop 1 marks) ended
  pub all_ended : is_sent_out shut got ≡ true → AreEnds marks ended
  pub awaited : AreAwaited scanned lines (banners_in got)
  pub so_far : IsSentSoFar read reading scanned lines (stop_by reading scanned)
  pub stop : end.stop ≡ or_alarm (list_any is_limit got) (end.answered + forgotten) (stop_by reading scanned)
  pub left : List ℕ
  pub front : stored ++ left ≡ on_link lines
  pub borders : AreBorders marks lines
  pub marks_are : AreMarks marks scanned
  pub all_marked : is_sent_out shut got ≡ true → reverse marks ≡ marks_behind 0 (lines_of scanned)
  pub due : List ℕ
  pub resumes : ℕ
  pub raises_so_far : AreRaised scanned raised due resumes
  pub sent : is_sent_out shut got ≡ true → IsSent read reading scanned lines end.stop
  pub link : is_out shut raised got ≡ true → stored ≡ on_link lines
  pub few : is_out shut raised got ≡ true → length (on_link (drop end.answered live)) ≤ room
  pub raises : is_out shut raised got ≡ true → AreRaised scanned raised [] resumes
  pub waited : attended ≡ false → count_by is_cancel raised ≤ cancels_in (take (end.answered + forgotten + 1) (lines_of scanned))
  pub reported : attended ≡ false → AreReported live got
  pub bye : list_any is_bye got ≡ true
  pub console : Took console_was console_is end.console_failed (replies_text got)
  pub answered : end.answered ≡ answers_in got
  pub errors : end.errors ≡ errors_among got
  pub failed : end.source_failed ≡ is_failed reading
  pub source : end.source_failed ≡ true → Rose job_was.faults job_is.faults
  pub source_same : end.source_failed ≡ false → job_is.faults ≡ job_was.faults

-- A host runs: it has read a job so far, raised its realtime bytes but for those that are due, and stored a front of its lines,
-- and marks at their borders. The console has a front of the replies' text.
pub record HostRuns (attended : Bool) (room : ℕ) (job_was job_is : SourceState) (console_was console_is : SinkState) (stored marks raised : List ℕ) (got : List Reply) : Type 0 where
  pub read : List ℕ
  pub reading : Reading
  pub scanned : List ℕ
  pub lines : List (List ℕ)
  pub live : List (List ℕ)
  pub ended : List Epoch
  pub now : Epoch
  pub epochs : AreEpochs room lines live got ended now
  pub awaited : AreAwaited scanned lines (banners_in got)
  pub stop : Stop
  pub taken : Consumes job_was.left job_is.left read
  pub sent : IsSentSoFar read reading scanned lines stop
  pub left : List ℕ
  pub link : stored ++ left ≡ on_link lines
  pub borders : AreBorders marks lines
  pub due : List ℕ
  pub resumes : ℕ
  pub raises : AreRaised scanned raised due resumes
  pub reported : attended ≡ false → AreReported live got
  pub failed : Bool
  pub waiting : List ℕ
  pub console : Wrote console_was console_is failed waiting (replies_text got)

-- ---- by a journal

-- nothing more of the job was read, scanned, stored, marked or raised
pub record SentNoMore (was is : Journal) : Type 0 where
  pub read : read_of is ≡ read_of was
  pub reading : reading_of is ≡ reading_of was
  pub scanned : scanned_of is ≡ scanned_of was
  pub lines : cut_of is ≡ cut_of was
  pub stored : stored_of is ≡ stored_of was
  pub marks : marks_of is ≡ marks_of was
  pub raised : line_raises_of is ≡ line_raises_of was

-- Bye was got, and all that was got is written, or a write failed
pub record HasFinished (h : Journal) : Type 0 where
  pub bye : has_bye h ≡ true
  pub written : HasWritten h

-- the console was given the text of the replies since a moment, as far as the journal says that it was written
abbrev pub TellsConsole : Journal → SinkState → SinkState → Type 0
TellsConsole h was is = Wrote was is (has_given_up h) (drop (written_of h) (text_of h)) (text_of h)

-- what a host tells of a journal
abbrev pub end_of : Journal → HostEnd
end_of h = record {
  stop = stop_of h;
  answered = answered_of h;
  errors = errors_of h;
  source_failed = is_failed (reading_of h);
  console_failed = has_given_up h;
}
