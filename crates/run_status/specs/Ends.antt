-- How a run ends.
use Rattle.std.specs.Prelude.{◌≡◌, ℕ, zero, suc, ◌+◌, ◌≤◌, cond, true, false, List, ◌∷◌, ◌++◌, [], length}
use Rattle.std.specs.List.{list_any, take_while}
use Rattle.std.specs.Io.KnownBytes.{Appends, Consumes, IsAtEnd}
use Rattle.outside.specs.Causes.{Rose, SourceState}
use Rattle.run_status.specs.Setups.{Setup}
use Rattle.step_record.specs.Forms.{text_in}
use Rattle.run_rules.specs.Lines.{lines_of}
use Rattle.run_rules.specs.Readings.{largest_job, job_of}
use Rattle.run_rules.specs.Outcomes.{limited}
use Rattle.run_rules.specs.Limits.{IsBeyond}
use Rattle.run_rules.specs.Told.{replies_text, errors_in}
use Rattle.run_texts.specs.Courses.{Passed, lines_in}
use Rattle.run_texts.specs.Courses.Passed.{a_line}
use Rattle.run_texts.specs.Points.{Point, opening}
use Rattle.run_texts.specs.Sent.{Sent, sent_of}
use Rattle.run_texts.specs.Sent.Sent.{a_text}
use Rattle.run_texts.specs.SoFar.{LeadsTo}
use Rattle.host_journal.specs.declared.Reading.{Reading}
use Rattle.host_journal.specs.declared.Reading.TheVariants.{Large}
use Rattle.host_journal.specs.declared.Stop.{Stop}
use Rattle.host_journal.specs.declared.Stop.TheVariants as stops
use Rattle.host_journal.specs.Jobs.{MayHaveRead, MayScan, is_long, is_sent, stop_by}
use Rattle.run_law.specs.declared.RunEnd.{RunEnd}
use Rattle.run_law.specs.Runs.{Sinks}
use Rattle.epoch_law.specs.Runs.{IsRun}
use Rattle.run_status.specs.Complete.{IsAcceptedJob}
use Rattle.run_status.specs.declared.Status.{Status}
use Rattle.run_status.specs.declared.Status.TheVariants.{Done, LineErrors, Usage, SourceFault, ConsoleFault, StepsFault, LongLine, Alarm, TooLarge, OutOfMemory}

-- the status of a run whose job was sent to its end and whose texts were written
abbrev pub by_errors : ℕ → Status
by_errors zero = Done
by_errors (suc n) = LineErrors (suc n)

-- by why no more of the job was sent
abbrev pub by_stop : Stop → ℕ → Status
by_stop stops.End errors = by_errors errors
by_stop (stops.LongLine k) errors = LongLine k
by_stop stops.TooLarge errors = TooLarge
by_stop (stops.Alarm k) errors = Alarm k

-- the first cause that holds: a fault of the steps, of the console, of the source; why no more of the job was sent; refused
-- lines
abbrev pub status_of : RunEnd → Status
status_of end =
    cond end.steps_failed StepsFault (cond end.console_failed ConsoleFault (cond end.source_failed SourceFault (by_stop end.stop end.errors)))

-- A run of the job, whatever failed, and its status.
pub record EndsWith (setup : Setup) (job_was job_is : SourceState) (was is : Sinks) (status : Status) : Type 0 where
  pub end : RunEnd
  pub run : IsRun setup.attended setup.room setup.blocks setup.form job_was job_is was is end
  pub status_is : status ≡ status_of end

abbrev pub IsWhole : Status → Type 0
IsWhole Done = Unit {0}
IsWhole (LineErrors n) = Unit {0}
IsWhole _ = ⊥

-- A run that went to its end. All of the job was read and scanned, each of its lines was sent, and no line raised an alarm. The console
-- has the whole text of the replies, and the steps that of the records. The status tells how many lines were refused. What the replies
-- and records are, and by which course of the job, is what is so of each run.
pub record IsWholeRun (setup : Setup) (job_was job_is : SourceState) (was is : Sinks) (status : Status) : Type 0 where
  pub end : RunEnd
  pub run : IsRun setup.attended setup.room setup.blocks setup.form job_was job_is was is end
  pub at_end : IsAtEnd job_is.left
  pub few : length run.read ≤ largest_job
  pub scanned : run.scanned ≡ run.read
  pub lines : run.lines ≡ lines_of run.read
  pub rest : run.rest ≡ []
  pub calm : run.fits.last.before.alarmed ≡ false
  pub console : Appends was.console.held is.console.held (replies_text run.replies)
  pub steps : Appends was.steps.held is.steps.held (text_in setup.form run.records)
  pub status_is : status ≡ by_errors (errors_in (lines_in run.fits.course))

-- What was sent takes a course that ends with an alarm. What was passed before leads to a point at which no line has raised one, and the
-- machine is not locked. There a line is begun that is beyond a soft limit, the last of the course, and nothing is done of it.
pub record EndsInAlarm (from : Point) (sent : List Sent) (course : List Passed) : Type 0 where
  pub earlier : List Passed
  pub point : Point
  pub line : List ℕ
  pub behind : List Sent
  pub leads : LeadsTo from sent earlier point (a_text line ∷ behind)
  pub course_is : course ≡ earlier ++ a_line (limited point.before) ∷ []
  pub calm : point.before.alarmed ≡ false
  pub unlocked : point.locked ≡ false
  pub answered : point.unanswered ≡ false
  pub beyond : IsBeyond point.before line

-- A run that the alarm of line k ended. Nothing in what was scanned of the job ends the sending, and the course of the job ends with the
-- alarm of that line. The console has the whole text of the replies, and the steps that of the records. What the replies and records are
-- is what is so of each run.
pub record IsAlarmedRun (setup : Setup) (job_was job_is : SourceState) (was is : Sinks) (k : ℕ) : Type 0 where
  pub end : RunEnd
  pub run : IsRun setup.attended setup.room setup.blocks setup.form job_was job_is was is end
  pub going : stop_by run.reading run.scanned ≡ stops.End
  pub alarm : EndsInAlarm (opening run.fits.first) (sent_of run.lines run.rest) run.fits.course
  pub number : k ≡ alarm.point.before.number
  pub console : Appends was.console.held is.console.held (replies_text run.replies)
  pub steps : Appends was.steps.held is.steps.held (text_in setup.form run.records)

-- more bytes were read than a job may have, and no more than the rest of the piece that has the first of them
pub record TookMore (job_was job_is : SourceState) : Type 0 where
  pub read : List ℕ
  pub taken : Consumes job_was.left job_is.left read
  pub more : MayHaveRead Large (length read)

-- of the bytes that were scanned of the job, line k is the first of which more than 127 are kept, behind its last reset so far
pub record HasLongLine (job_was job_is : SourceState) (k : ℕ) : Type 0 where
  pub read : List ℕ
  pub reading : Reading
  pub scanned : List ℕ
  pub taken : Consumes job_was.left job_is.left read
  pub scans : MayScan reading (job_of read) scanned
  pub some : list_any is_long (lines_of scanned) ≡ true
  pub first : k ≡ length (take_while is_sent (lines_of scanned)) + 1

-- the words were refused, or there was no memory
abbrev pub HasNotBegun : Status → Type 0
HasNotBegun Usage = Unit {0}
HasNotBegun OutOfMemory = Unit {0}
HasNotBegun _ = ⊥

-- a job was run
abbrev pub JobWasRun : Status → Type 0
JobWasRun Usage = ⊥
JobWasRun OutOfMemory = ⊥
JobWasRun _ = Unit {0}

-- no device has failed: each count of faults is as before
pub record IsFaultless (job_was job_is : SourceState) (was is : Sinks) : Type 0 where
  pub source : job_is.faults ≡ job_was.faults
  pub console : is.console.faults ≡ was.console.faults
  pub steps : is.steps.faults ≡ was.steps.faults

-- a status and its cause, what a run to the end has done, and which runs end with `Done`
pub record HasCauses (setup : Setup) (job_was job_is : SourceState) (was is : Sinks) (status : Status) : Type 0 where
  pub has_run : JobWasRun status
  pub source : status ≡ SourceFault → Rose job_was.faults job_is.faults
  pub console : status ≡ ConsoleFault → Rose was.console.faults is.console.faults
  pub steps : status ≡ StepsFault → Rose was.steps.faults is.steps.faults
  pub large : status ≡ TooLarge → TookMore job_was job_is
  pub long : (k : ℕ) → status ≡ LongLine k → HasLongLine job_was job_is k
  pub alarm : (k : ℕ) → status ≡ Alarm k → IsAlarmedRun setup job_was job_is was is k
  pub whole : IsWhole status → IsWholeRun setup job_was job_is was is status
  pub faultless : IsWhole status → IsFaultless job_was job_is was is
  pub complete : IsAcceptedJob job_was → ¬ Rose job_was.faults job_is.faults
      → ¬ Rose was.console.faults is.console.faults → ¬ Rose was.steps.faults is.steps.faults → status ≡ Done
