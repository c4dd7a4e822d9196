-- When each status comes, as one table.
use Rattle.std.specs.Prelude.{◌≡◌, ◌⊎◌, ℕ, ◌≤◌, ◌<◌, ◌-◌, ◌^◌, false, List, length}
use Rattle.std.specs.Io.KnownBytes.{Consumes, IsAtEnd}
use Rattle.run_status.specs.Setups.{Setup}
use Rattle.outside.specs.Causes.{Rose, SourceState}
use Rattle.run_rules.specs.Readings.{largest_job}
use Rattle.host_journal.specs.declared.Reading.TheVariants.{Ended}
use Rattle.host_journal.specs.declared.Stop.{Stop}
use Rattle.host_journal.specs.declared.Stop.TheVariants as stops
use Rattle.host_journal.specs.Jobs.{ScansFront, ends_in, stop_by}
use Rattle.run_law.specs.Runs.{Sinks}
use Rattle.run_status.specs.declared.Status.{Status}
use Rattle.run_status.specs.declared.Status.TheVariants.{Done, LineErrors, Usage, SourceFault, ConsoleFault, StepsFault, LongLine, Alarm, TooLarge, OutOfMemory}
use Rattle.run_status.specs.Ends.{IsWhole, IsWholeRun, IsAlarmedRun, IsFaultless, TookMore}

-- Why no more was sent of a job that is not too large, where no read failed. What was scanned of it ends with the byte with
-- which a line is too long; else all of the job was read and scanned.
pub record SendsUpTo (job_was job_is : SourceState) (stop : Stop) : Type 0 where
  pub read : List ℕ
  pub scanned : List ℕ
  pub taken : Consumes job_was.left job_is.left read
  pub few : length read ≤ largest_job
  pub scans : ScansFront read scanned
  pub whole : ends_in scanned ≡ false → (read ≡ scanned) × IsAtEnd job_is.left
  pub cause : stop ≡ stop_by Ended scanned

-- The cause of each status that a run ends with, from the one that is told first to the last. Where a row holds none of the rows
-- above it does, but for that of an alarm: a line that is too long may stand behind the lines that were scanned before
-- it. A count of faults that has not risen is as before.
abbrev pub HasItsCause : Setup → SourceState → SourceState → Sinks → Sinks → Status → Type 0
HasItsCause setup job_was job_is was is StepsFault = Rose was.steps.faults is.steps.faults
HasItsCause setup job_was job_is was is ConsoleFault = (is.steps.faults ≡ was.steps.faults) × Rose was.console.faults is.console.faults
HasItsCause setup job_was job_is was is SourceFault =
    (is.steps.faults ≡ was.steps.faults) × (is.console.faults ≡ was.console.faults) × Rose job_was.faults job_is.faults
HasItsCause setup job_was job_is was is TooLarge = IsFaultless job_was job_is was is × TookMore job_was job_is
HasItsCause setup job_was job_is was is (LongLine k) = IsFaultless job_was job_is was is × SendsUpTo job_was job_is (stops.LongLine k)
HasItsCause setup job_was job_is was is (Alarm k) = IsFaultless job_was job_is was is × IsAlarmedRun setup job_was job_is was is k
HasItsCause setup job_was job_is was is (LineErrors n) =
    IsFaultless job_was job_is was is × SendsUpTo job_was job_is stops.End × IsWholeRun setup job_was job_is was is (LineErrors n)
HasItsCause setup job_was job_is was is Done = IsFaultless job_was job_is was is × SendsUpTo job_was job_is stops.End × IsWholeRun setup job_was job_is was is Done
-- no run ends so: none was begun
HasItsCause setup job_was job_is was is Usage = ⊥
HasItsCause setup job_was job_is was is OutOfMemory = ⊥

-- a count of faults that is not at its last value
abbrev pub CanRise : ℕ → Type 0
CanRise count = count < 2 ^ 64 - 1

-- the counts of the three devices are not
pub record CanFail (job : SourceState) (sinks : Sinks) : Type 0 where
  pub source : CanRise job.faults
  pub console : CanRise sinks.console.faults
  pub steps : CanRise sinks.steps.faults

abbrev pub IsAlarm : Status → Type 0
IsAlarm (Alarm k) = Unit {0}
IsAlarm _ = ⊥

-- no device failed, and the job is not too large: told is what stands in it, or what became of its lines
abbrev pub IsOfJob : Status → Type 0
IsOfJob Done = Unit {0}
IsOfJob (LineErrors n) = Unit {0}
IsOfJob (LongLine k) = Unit {0}
IsOfJob (Alarm k) = Unit {0}
IsOfJob _ = ⊥

-- The same status, or two between which the run decides, and not the job. Both of a run that was sent to its end: how many
-- lines were refused says the run. Or an alarm beside another where no device failed and the job is not too large: a line may be
-- beyond a soft limit by where a cut has left the machine, and what else ends the sending is found only where the job was
-- scanned up to there before the alarm came.
abbrev pub AreOne : Status → Status → Type 0
AreOne a b = (a ≡ b) ⊎ ((IsWhole a × IsWhole b) ⊎ ((IsAlarm a ⊎ IsAlarm b) × IsOfJob a × IsOfJob b))

-- The first device of which a call failed is told: the steps before the console, that before the source.
pub record TellsFaults (job_was job_is : SourceState) (was is : Sinks) (status : Status) : Type 0 where
  pub steps : Rose was.steps.faults is.steps.faults → status ≡ StepsFault
  pub console : is.steps.faults ≡ was.steps.faults → Rose was.console.faults is.console.faults → status ≡ ConsoleFault
  pub source : is.steps.faults ≡ was.steps.faults → is.console.faults ≡ was.console.faults → Rose job_was.faults job_is.faults → status ≡ SourceFault
