-- What a run of a job is over epochs, and how it ends, and not who has done it.
use Rattle.std.specs.Prelude.{◌≡◌, ℕ, ◌+◌, ◌≤◌, Bool, true, false, List, [], ◌∷◌, ◌++◌, length, map, sum}
use Rattle.std.specs.Io.KnownBytes.{Consumes, IsAtEnd}
use Rattle.std.specs.List.{AllByRecursion, count_by, flat_map}
use Rattle.flight.specs.Places.{origin}
use Rattle.outside.specs.Causes.{Rose, SourceState}
use Rattle.outside.specs.Writing.{Took}
use Rattle.planner_runs.specs.Runs.{fresh_plan}
use Rattle.run_law.specs.Changes.{AreAskedIn}
use Rattle.run_law.specs.Runs.{Sinks, asks_hold, asks_slow, asks_change, slows_behind, slows_in}
use Rattle.run_law.specs.declared.RunEnd.{RunEnd}
use Rattle.run_rules.specs.Reports.{AreReported, is_query}
use Rattle.run_rules.specs.Told.{errors_in, limits_in, replies_text}
use Rattle.run_rules.specs.declared.State.{State}
use Rattle.run_texts.specs.Besides.{CutsHaveCauses, DropsAreFew}
use Rattle.run_texts.specs.Courses.{Passed, lines_in}
use Rattle.run_texts.specs.Fits.{FitsTexts}
use Rattle.run_texts.specs.Fronts.{BeginsWith}
use Rattle.run_texts.specs.Parts.{parts_of}
use Rattle.run_texts.specs.Points.{Point, opening}
use Rattle.run_texts.specs.Sent.{Sent, sent_of}
use Rattle.run_texts.specs.Told.{told_in, has_alarm}
use Rattle.status_report.specs.Answering.{answers_in, without_reports, banners_in}
use Rattle.status_report.specs.declared.Reply.{Reply}
use Rattle.status_report.specs.declared.Reply.TheVariants.{Banner, Bye}
use Rattle.step_line.specs.Ending.{IsEnded}
use Rattle.step_line.specs.declared.Record.{Record}
use Rattle.step_record.specs.declared.forms.Form.{Form}
use Rattle.step_record.specs.Forms.{text_in}
use Rattle.host_journal.specs.declared.Reading.{Reading}
use Rattle.host_journal.specs.declared.Reading.TheVariants.{Ended}
use Rattle.stream_host.specs.Epochs as host
use Rattle.host_journal.specs.Jobs.{served_in, resets_scanned, stop_by, IsSent, IsSentSoFar}
use Rattle.stream_host.specs.Ran.{is_failed}
use Rattle.host_journal.specs.Steps.{or_alarm}
use Rattle.epoch_courses.specs.Drives.{Driven, AreDriven}
use Rattle.epoch_courses.specs.Told.{without_byes}
use Rattle.epoch_effects.specs.Effects.{EpochEffects, AreEffects}
use Rattle.epoch_effects.specs.Pieces.{ArePublished}
use Rattle.epoch_effects.specs.Asking.{AsksInTurn}
use Rattle.epoch_effects.specs.Reports.{HasReported, TellsLock, AreOpened, resets_of}
use Rattle.epoch_effects.specs.Words.{WordsTaken}
use Rattle.epoch_records.specs.Epochs.{Epoch, ArePut}
use Rattle.epoch_records.specs.Runs.{AreRun}
use Rattle.epoch_law.specs.Ran.{IsRest, AreMade, lost_in}

-- ---- the job

-- What was scanned and sent of the job: some of it was read, and some lines of it were sent, all that are to be sent if no alarm was told.
-- A rest was scanned behind them. The lines and the replies are those of epochs, each but the first begun by a Banner: at the end of each
-- the lines that have no answer are forgotten, which take no more bytes than the link has room for, each with its LF; the others live.
-- Each line that lives, asks for a report and is answered has one, behind the answers to the lines before it; of an attended run that is
-- not said.
pub record IsScannedAndSent (attended : Bool) (room : ℕ) (job_was job_is : SourceState) (end : RunEnd) (read : List ℕ) (reading : Reading) (scanned : List ℕ) (lines : List (List ℕ)) (rest : List ℕ) (replies : List Reply) : Type 0 where
  pub taken : Consumes job_was.left job_is.left read
  pub at_end : reading ≡ Ended → IsAtEnd job_is.left
  pub so_far : IsSentSoFar read reading scanned lines (stop_by reading scanned)
  pub sent : has_alarm replies ≡ false → IsSent read reading scanned lines end.stop
  pub is_rest : IsRest scanned lines rest
  pub live : List (List ℕ)
  pub forgotten : ℕ
  pub all : length lines ≡ length live + forgotten
  pub ended : List host.Epoch
  pub now : host.Epoch
  pub epochs : host.AreEpochs room lines live replies ended now
  pub reported : attended ≡ false → AreReported live replies

-- ---- the console

-- What was told: the banner, what the course tells, and Bye, which has no text, with status reports among that. Each line that was passed
-- has one answer, or raises an alarm, which is told exactly then. The text is whole if no write failed.
pub record IsToldAndAnswered (was is : Sinks) (end : RunEnd) (course : List Passed) (last : Point) (replies : List Reply) : Type 0 where
  pub told : without_reports replies ≡ Banner ∷ (told_in course ++ Bye ∷ [])
  pub alarm : has_alarm replies ≡ last.before.alarmed
  pub answered : end.answered ≡ answers_in replies
  pub each : end.answered + limits_in (lines_in course) ≡ length (lines_in course)
  pub errors : end.errors ≡ errors_in (lines_in course)
  pub console : Took was.console is.console end.console_failed (replies_text replies)

-- ---- the steps

-- What was recorded: for each part of the course the planner was given what its lines ask for, and ran it, with a plan of so many blocks;
-- epoch by epoch the pieces that it gave were run, and their records put, as far as ticks were made, with the mark of the reset, or the end, behind them. The text, in
-- the form of the run, is whole if no write failed.
pub record IsRunAndRecorded (blocks : ℕ) (form : Form) (was is : Sinks) (end : RunEnd) (course : List Passed) (drives : List Driven) (epochs : List Epoch) (records : List Record) : Type 0 where
  pub driven : AreDriven blocks true origin fresh_plan (parts_of course) drives
  pub run : AreRun (parts_of course) origin epochs
  pub put : ArePut epochs records
  pub ended : IsEnded records
  pub steps : Took was.steps is.steps end.steps_failed (text_in form records)

-- ---- what words of flags have done

-- what was taken of them was scanned: for a hold `!`, for a hold or a cancel `!` or 0x85, and for each change of overrides its byte
pub record IsScannedFor (scanned : List ℕ) (w : WordsTaken) : Type 0 where
  pub held : w.held ≡ true → asks_hold scanned ≡ true
  pub slowed : w.slowed ≡ true → asks_slow scanned ≡ true
  pub changed : w.changed ≡ true → asks_change scanned ≡ true
  pub changes : AreAskedIn (served_in scanned) w.changes

-- Epoch by epoch, overrides begin at 100 percent, and each change sets them to that or is asked for; nothing slows the machine down but a
-- hold, a cancel or a change of overrides for which a word was taken, and an alarm. Reports fit the lines of their epoch, the opening that
-- the reset before it has left, and the ticks that were made in it; while an epoch is locked they tell of an alarm, and behind the line
-- that unlocks it only of one that a line has raised; reports may be answered behind Bye that are not got. Of each part all was asked that
-- its lines but the last ask for. All words that were taken were scanned; so were as many `?` as there are words that asked for reports, and
-- as many `!` and 0x85 as words for a hold or a cancel.
pub record HasEffects (scanned : List ℕ) (first : State) (course : List Passed) (drives : List Driven) (epochs : List Epoch) (replies : List Reply) (effects : List EpochEffects) : Type 0 where
  pub as_taken : AreEffects course drives effects
  pub opened : AreOpened first origin false (resets_of course) effects
  pub reports : AllByRecursion HasReported effects
  pub locks : AllByRecursion TellsLock effects
  pub asking : AllByRecursion AsksInTurn effects
  pub answered : BeginsWith (flat_map (λ e. e.answered) effects) replies
  pub published : AllByRecursion ArePublished effects
  pub made : AreMade effects epochs
  pub each : AllByRecursion (λ e. IsScannedFor scanned e.taken) effects
  pub cancels : sum (map (λ e. e.taken.cancels) effects) ≤ slows_in scanned
  pub asked : sum (map (λ e. e.taken.asked) effects) ≤ count_by is_query (served_in scanned)

-- Each cut has a jog as its cause, and each reset drops few lines: no more bytes than the link has room for, each with its LF.
pub record HasCauses (room : ℕ) (first : State) (sent : List Sent) (course : List Passed) : Type 0 where
  pub cuts : CutsHaveCauses (opening first) sent course
  pub drops : DropsAreFew room 0 sent course

-- ---- the end

-- How the run ended. As many lines were forgotten as resets have left without an answer. Why no more was sent is what the job says, or else
-- an alarm, at the first line that is neither answered nor forgotten. If no alarm was told, each reset that was scanned has a Banner, behind
-- the first one. Of the source, the count of faults rose if a call failed, and is as before if none did.
pub record HasEnded (job_was job_is : SourceState) (end : RunEnd) (reading : Reading) (scanned : List ℕ) (forgotten : ℕ) (course : List Passed) (replies : List Reply) : Type 0 where
  pub lost : lost_in course ≡ forgotten
  pub stop : end.stop ≡ or_alarm (has_alarm replies) (end.answered + forgotten) (stop_by reading scanned)
  pub greeted : has_alarm replies ≡ false → banners_in replies ≡ resets_scanned scanned + 1
  pub failed : end.source_failed ≡ is_failed reading
  pub source : end.source_failed ≡ true → Rose job_was.faults job_is.faults
  pub source_same : end.source_failed ≡ false → job_is.faults ≡ job_was.faults

-- ---- a run

-- A run of a job over epochs, attended or not, at a link that has room for so many bytes, with a plan of so many blocks, and whose steps
-- have a form, whatever failed: what was read, scanned and sent of it; the replies and records that were made; that these texts fit, by one
-- course; and beside this course how it was run, what words of flags have done, and how it ended. If it is not attended, the cancel of a
-- jog waits for the answers to the lines before its own: no more words for a hold or a cancel were taken than holds were scanned, and
-- cancels up to the end of the first line that is neither answered nor forgotten.
pub record IsRun (attended : Bool) (room blocks : ℕ) (form : Form) (job_was job_is : SourceState) (was is : Sinks) (end : RunEnd) : Type 0 where
  pub read : List ℕ
  pub reading : Reading
  pub scanned : List ℕ
  pub lines : List (List ℕ)
  pub rest : List ℕ
  pub replies : List Reply
  pub records : List Record
  pub drives : List Driven
  pub epochs : List Epoch
  pub effects : List EpochEffects
  pub sending : IsScannedAndSent attended room job_was job_is end read reading scanned lines rest replies
  pub fits : FitsTexts (sent_of lines rest) (slows_in scanned) (without_byes replies) records
  pub telling : IsToldAndAnswered was is end fits.course fits.last replies
  pub recording : IsRunAndRecorded blocks form was is end fits.course drives epochs records
  pub doing : HasEffects scanned fits.first fits.course drives epochs replies effects
  pub causes : HasCauses room fits.first (sent_of lines rest) fits.course
  pub waited : attended ≡ false → sum (map (λ e. e.taken.cancels) effects) ≤ slows_behind (end.answered + sending.forgotten) scanned
  pub ending : HasEnded job_was job_is end reading scanned sending.forgotten fits.course replies
