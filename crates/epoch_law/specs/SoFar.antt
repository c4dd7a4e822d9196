-- What host, board and pulse have done so far, over epochs, and what a run so far is.
use Rattle.std.specs.Prelude.{◌≡◌, ◌⊎◌, ℕ, ◌+◌, ◌≤◌, Bool, false, List, [], ◌∷◌, ◌++◌, length, map}
use Rattle.std.specs.Io.KnownBytes.{Consumes}
use Rattle.std.specs.List.{AllByRecursion, flat_map}
use Rattle.flight.specs.Halts.{Stretch}
use Rattle.flight.specs.Places.{origin}
use Rattle.outside.specs.Causes.{SourceState, SinkState}
use Rattle.outside.specs.Writing.{Wrote}
use Rattle.planner_runs.specs.Runs.{fresh_plan}
use Rattle.run_law.specs.Runs.{Sinks, slows_in}
use Rattle.run_rules.specs.Reports.{AreReported}
use Rattle.run_rules.specs.States.{IsOpening}
use Rattle.run_rules.specs.Told.{replies_text}
use Rattle.run_rules.specs.declared.State.{State}
use Rattle.run_rules.specs.Lines.{ended}
use Rattle.run_texts.specs.Besides.{CutsHaveCauses, DropsAreFew}
use Rattle.run_texts.specs.Courses.{Passed, cuts_in}
use Rattle.run_texts.specs.Fronts.{BeginsWith}
use Rattle.run_texts.specs.Parts.{parts_of}
use Rattle.run_texts.specs.Points.{Point, opening}
use Rattle.run_texts.specs.Sent.{Sent, sent_of}
use Rattle.run_texts.specs.SoFar.{LeadsTo, FitsSoFar}
use Rattle.run_texts.specs.Told.{told_in}
use Rattle.status_report.specs.Answering.{without_reports}
use Rattle.status_report.specs.declared.Reply.{Reply}
use Rattle.status_report.specs.declared.Reply.TheVariants.{Banner, Bye}
use Rattle.step_line.specs.declared.Piece.{Piece}
use Rattle.step_line.specs.declared.Record.{Record}
use Rattle.step_record.specs.declared.forms.Form.{Form}
use Rattle.step_record.specs.Forms.{text_in}
use Rattle.host_journal.specs.declared.Reading.{Reading}
use Rattle.stream_host.specs.Epochs as host
use Rattle.host_journal.specs.Jobs.{stop_by, IsSentSoFar}
use Rattle.stream_host.specs.Ran.{HostRuns}
use Rattle.epoch_courses.specs.Drives.{Driven, AreDriven}
use Rattle.epoch_courses.specs.Told.{without_byes}
use Rattle.epoch_effects.specs.Effects.{EpochEffects, AreEffects}
use Rattle.epoch_effects.specs.Pieces.{ArePublished}
use Rattle.epoch_effects.specs.Asking.{AsksInTurn}
use Rattle.epoch_effects.specs.Reports.{HasReported, TellsLock, AreOpened, resets_of}
use Rattle.epoch_effects.specs.Words.{AreTakenIn}
use Rattle.epoch_links.specs.Links.{AwaitsBanners, EndsEpochs}
use Rattle.epoch_links.specs.Pieces.{joined, items_in, IsFrontOf}
use Rattle.epoch_records.specs.Epochs.{Epoch}
use Rattle.epoch_records.specs.SoFar.{AreRunSoFar, IsPutSoFar, ArePublishedSoFar}
use Rattle.epoch_records.specs.Stretches.{pieces_of_all, EndStretches, ArePutSince}
use Rattle.epoch_law.specs.Ran.{HostDid, BoardDid, PulseDid, IsRest, AreMade}
use Rattle.epoch_law.specs.Runs.{HasEffects, HasCauses}

-- A host runs over epochs: it has stored and marked a front of its lines and the resets that came of them and of a rest.
pub record Sending (attended : Bool) (room : ℕ) (job_was job_is : SourceState) (console_was console_is : SinkState) (d : HostDid) : Type 0 where
  pub runs : HostRuns attended room job_was job_is console_was console_is d.stored d.marks d.raised d.got
  pub rest : List ℕ
  pub is_rest : IsRest runs.scanned runs.lines rest
  pub front : IsFrontOf (sent_of runs.lines rest) d.stored d.marks
  pub awaits : AwaitsBanners d.stored d.marks d.at_got

-- replies begin with the banner, if there are any
abbrev pub BeginWithBanner : List Reply → Type 0
BeginWithBanner replies = (replies ≡ []) ⊎ ((behind : List Reply) × (replies ≡ Banner ∷ behind))

-- A board runs over epochs, with a plan of so many blocks, while so many ticks are put in all. What it took has taken a course so far, which leads to a point, where some of
-- it is left that is not begun. It has answered a front of the banner, what the course tells, and Bye, with reports among that. For each part
-- of the course so far the planner was given what its lines ask for, or that is left to ask; closed epochs and an open one were run for the
-- parts, and these were published; the mark of the open one's reset has the number of the line that was begun last. It has ended an epoch for each reset, which drops the lines of its epoch that have no answer; each cut
-- has a jog as its cause; and what words of flags have done in each epoch is as they were taken.
pub record BoardRuns (blocks ticks : ℕ) (d : BoardDid) : Type 0 where
  pub first : State
  pub opens : IsOpening first
  pub course : List Passed
  pub point : Point
  pub left : List Sent
  pub leads : LeadsTo (opening first) (items_in d.taken) course point left
  pub ends : EndsEpochs d.taken (joined d.taken) d.loaded d.at_answers
  pub causes : CutsHaveCauses (opening first) (items_in d.taken) course
  pub drops : (room : ℕ) → AllByRecursion (λ ls. length (ended ls) ≤ room) d.dropped → DropsAreFew room 0 (items_in d.taken) course
  pub begins : BeginWithBanner (without_byes d.answered)
  pub told : BeginsWith (Banner ∷ (told_in course ++ Bye ∷ [])) (without_reports d.answered)
  pub plain : BeginsWith (Banner ∷ told_in course) (without_reports (without_byes d.answered))
  pub drives : List Driven
  pub driven : AreDriven blocks false origin fresh_plan (parts_of course) drives
  pub closed : List Epoch
  pub now : Epoch
  pub run : AreRunSoFar (parts_of course) origin (closed ++ now ∷ [])
  pub number : ℕ
  pub numbered : number + 1 ≡ point.before.number
  pub published_are : ArePublishedSoFar number d.phase closed now ticks d.published d.halts
  pub few : cuts_in course ≤ d.words.cancels
  pub effects : List EpochEffects
  pub doing : AreEffects course drives effects
  pub opened : AreOpened first origin false (resets_of course) effects
  pub reports : AllByRecursion HasReported effects
  pub locks : AllByRecursion TellsLock effects
  pub asking : AllByRecursion AsksInTurn effects
  pub answered_are : d.answered ≡ flat_map (λ e. e.answered) effects
  pub pieces : AllByRecursion ArePublished effects
  pub made : AreMade effects (closed ++ now ∷ [])
  pub taken_are : AreTakenIn d.words (map (λ e. e.taken) effects)

-- A pulse runs. Halts part what it got or dropped into stretches; of each it put the first records, up to the ticks that it counted, and
-- the first records of what it got behind the last halt.
pub record PulseRuns (d : PulseDid) : Type 0 where
  pub stretches : List Stretch
  pub last : List Piece
  pub pieces : pieces_of_all stretches ++ last ≡ d.got
  pub halted : EndStretches d.halts stretches
  pub put : ArePutSince stretches last d.put

-- ---- a run so far

-- What was scanned and sent of the job so far: some of it was read, and some lines of it were sent, and a rest was scanned behind them. The
-- lines, and the replies that were got, are those of epochs, each but the first begun by a Banner, at whose end the lines that have no
-- answer are forgotten. Each line that lives, asks for a report and is answered has one, behind the answers to the lines before it; of an
-- attended run that is not said.
pub record IsScannedSoFar (attended : Bool) (room : ℕ) (job_was job_is : SourceState) (read : List ℕ) (reading : Reading) (scanned : List ℕ) (lines : List (List ℕ)) (rest : List ℕ) (got : List Reply) : Type 0 where
  pub taken : Consumes job_was.left job_is.left read
  pub sent : IsSentSoFar read reading scanned lines (stop_by reading scanned)
  pub is_rest : IsRest scanned lines rest
  pub live : List (List ℕ)
  pub ended : List host.Epoch
  pub now : host.Epoch
  pub epochs : host.AreEpochs room lines live got ended now
  pub reported : attended ≡ false → AreReported live got

-- What was told so far: the board has answered a front of the banner, what the course tells, and Bye, with reports among that; a front of
-- what it answered was got, and a front of its text is on the console.
pub record IsToldSoFar (was is : Sinks) (course : List Passed) (answered got : List Reply) : Type 0 where
  pub told : BeginsWith (Banner ∷ (told_in course ++ Bye ∷ [])) (without_reports answered)
  pub got_of : BeginsWith answered got
  pub failed : Bool
  pub waiting : List ℕ
  pub console : Wrote was.console is.console failed waiting (replies_text got)

-- What was recorded so far: for each part of the course the planner was given what its lines ask for, or that is left to ask, with a plan
-- of so many blocks; epoch by epoch the pieces that it gave were run. A front of what was put was taken, and a front of its text, in the form of the run, is with the
-- steps.
pub record IsRecordedSoFar (blocks : ℕ) (form : Form) (was is : Sinks) (course : List Passed) (drives : List Driven) (epochs : List Epoch) (put taken : List Record) : Type 0 where
  pub driven : AreDriven blocks false origin fresh_plan (parts_of course) drives
  pub run : AreRunSoFar (parts_of course) origin epochs
  pub taken_of : BeginsWith put taken
  pub failed : Bool
  pub waiting : List ℕ
  pub steps : Wrote was.steps is.steps failed waiting (text_in form taken)

-- A run so far, over epochs, with a plan of so many blocks: what was read, scanned and sent of the job; what was answered and got, and what was put and taken; that the
-- records are put of epochs, of the open one as far as ticks are made, before what ends it, where the mark of a reset has the number of the
-- line that was begun last; that these texts fit so far, by one course; and beside
-- this course how it was told and run so far, what words of flags have done, and what caused cuts. One line at most of each epoch is begun
-- and not answered, and reports are judged by the ticks that were made, which hold all of the lines up to the last answered one that settles
-- (`doing`).
pub record IsSoFar (attended : Bool) (room blocks : ℕ) (form : Form) (job_was job_is : SourceState) (was is : Sinks) : Type 0 where
  pub read : List ℕ
  pub reading : Reading
  pub scanned : List ℕ
  pub lines : List (List ℕ)
  pub rest : List ℕ
  pub answered : List Reply
  pub got : List Reply
  pub put : List Record
  pub taken : List Record
  pub drives : List Driven
  pub epochs : List Epoch
  pub effects : List EpochEffects
  pub sending : IsScannedSoFar attended room job_was job_is read reading scanned lines rest got
  pub number : ℕ
  pub put_are : IsPutSoFar number epochs put
  pub fits : FitsSoFar (sent_of lines rest) (slows_in scanned) (without_byes got) put_are.made
  pub numbered : number + 1 ≡ fits.point.before.number
  pub telling : IsToldSoFar was is fits.course answered got
  pub recording : IsRecordedSoFar blocks form was is fits.course drives epochs put taken
  pub doing : HasEffects scanned fits.first fits.course drives epochs got effects
  pub causes : HasCauses room fits.first (sent_of lines rest) fits.course
