-- What the host, the board and the pulse have done in a whole run over epochs, as plain lists.
use Rattle.std.specs.Prelude.{◌≡◌, ◌⊎◌, ℕ, ◌+◌, ◌≤◌, Bool, true, false, List, [], ◌∷◌, ◌++◌, length, map, reverse}
use Rattle.std.specs.List.{AllByRecursion, flat_map}
use Rattle.flight.specs.Halts.{Stretch}
use Rattle.flight.specs.Places.{origin}
use Rattle.outside.specs.Causes.{SourceState, SinkState}
use Rattle.planner_runs.specs.Runs.{fresh_plan}
use Rattle.run_rules.specs.Lines.{CutsInto, ended, lines_of}
use Rattle.run_rules.specs.States.{IsOpening}
use Rattle.run_rules.specs.declared.State.{State}
use Rattle.run_texts.specs.Besides.{CutsHaveCauses, DropsAreFew}
use Rattle.run_texts.specs.Courses.{Passed, cuts_in}
use Rattle.run_texts.specs.Courses.Passed.{a_line, a_broken, a_cut, a_reset}
use Rattle.run_texts.specs.Parts.{parts_of}
use Rattle.run_texts.specs.Points.{Point, opening}
use Rattle.run_texts.specs.Sent.{sent_of}
use Rattle.run_texts.specs.SoFar.{LeadsTo}
use Rattle.run_texts.specs.Told.{IsTold, told_in}
use Rattle.serial_ring.specs.Marks.{Mark}
use Rattle.status_report.specs.Answering.{without_reports, banners_in}
use Rattle.status_report.specs.declared.Reply.{Reply}
use Rattle.status_report.specs.declared.Reply.TheVariants.{Banner, Bye}
use Rattle.step_line.specs.Logs.{NewestFirst}
use Rattle.step_line.specs.declared.Piece.{Piece}
use Rattle.step_line.specs.declared.Piece.TheVariants as pieces_as
use Rattle.step_line.specs.declared.Record.{Record}
use Rattle.stream_host.specs.Ran.{HostEnd, HostRan, is_sent_out}
use Rattle.step_line.specs.Pieces.{ticks_of}
use Rattle.epoch_courses.specs.Drives.{Driven, AreDriven}
use Rattle.epoch_courses.specs.Told.{without_byes}
use Rattle.epoch_effects.specs.Effects.{EpochEffects, AreEffects}
use Rattle.epoch_effects.specs.Pieces.{ArePublished}
use Rattle.epoch_effects.specs.Asking.{AsksInTurn}
use Rattle.epoch_effects.specs.Reports.{HasReported, TellsLock, AreOpened, resets_of}
use Rattle.epoch_effects.specs.Words.{WordsTaken, AreTakenIn}
use Rattle.epoch_links.specs.Drops.{lines_among}
use Rattle.epoch_links.specs.Links.{AwaitsBanners, HasBanners, EndsEpochs}
use Rattle.epoch_links.specs.Pieces.{Pieces, joined, items_in, IsFrontOf, IsAllOf}
use Rattle.epoch_records.specs.Epochs.{Epoch}
use Rattle.epoch_records.specs.Publishing.{published_in, halts_in, AreOver}
use Rattle.epoch_records.specs.Runs.{AreRun}
use Rattle.epoch_records.specs.SoFar.{Phase}
use Rattle.epoch_records.specs.Stretches.{pieces_of_all, EndStretches, ArePutOver}

-- ---- the host

-- What a host has done at its port: the bytes that it stored; its marks, the latest first; how many bytes were stored when each Banner was
-- got, the latest first; whether it has closed the link; the realtime bytes that it raised; and the replies that it got. And how many of
-- its lines it has forgotten.
pub record HostDid : Type 0 where
  pub stored : List ℕ
  pub marks : List ℕ
  pub at_got : List ℕ
  pub shut : Bool
  pub raised : List ℕ
  pub got : List Reply
  pub forgotten : ℕ

-- A rest was scanned behind some lines, and is none of them: the bytes behind the last LF, or nothing where the end of the job ends a line.
abbrev pub IsRest : (scanned : List ℕ) → List (List ℕ) → (rest : List ℕ) → Type 0
IsRest scanned lines rest = CutsInto scanned lines rest ⊎ ((lines_of scanned ≡ lines) × (rest ≡ []))

-- What a host sends: the lines and the resets of these lines, and the resets of a rest. It has stored and marked a front of them, and
-- awaits a Banner of each mark; where none is awaited, or all is sent out, it has stored and marked all.
pub record Sends (lines : List (List ℕ)) (rest : List ℕ) (d : HostDid) : Type 0 where
  pub front : IsFrontOf (sent_of lines rest) d.stored d.marks
  pub awaits : AwaitsBanners d.stored d.marks d.at_got
  pub waits : HasBanners d.marks d.at_got ⊎ IsAllOf (sent_of lines rest) d.stored d.marks
  pub greeted : is_sent_out d.shut d.got ≡ true → HasBanners d.marks d.at_got
  pub whole : is_sent_out d.shut d.got ≡ true → IsAllOf (sent_of lines rest) d.stored d.marks

-- A host has run over epochs, attended or not.
pub record HasSent (attended : Bool) (room : ℕ) (job_was job_is : SourceState) (console_was console_is : SinkState) (d : HostDid) (end : HostEnd) : Type 0 where
  pub ran : HostRan attended room job_was job_is console_was console_is d.stored d.marks d.shut d.raised d.got end
  pub rest : List ℕ
  pub is_rest : IsRest ran.scanned ran.lines rest
  pub sends : Sends ran.lines rest d
  pub forgotten : ran.forgotten ≡ d.forgotten

-- ---- the board

-- What a board has done at its port: the bytes that it took, epoch by epoch; the marks that it loaded; how many bytes were taken when each
-- Banner was answered, the latest first; whether it found the link closed; the words of flags that it took; the replies that it answered;
-- the pieces that it published; the halts that it has seen, the latest first; how far the reset of its open epoch is; and of each epoch that
-- it has ended the lines that it took and has not answered.
pub record BoardDid : Type 0 where
  pub taken : Pieces
  pub loaded : List Mark
  pub at_answers : List ℕ
  pub closed : Bool
  pub words : WordsTaken
  pub answered : List Reply
  pub published : List Piece
  pub halts : NewestFirst (ℕ × ℕ)
  pub phase : Phase
  pub dropped : List (List (List ℕ))

-- how many lines of a course resets have left without an answer: those that were begun, and those that were dropped
abbrev pub lost_in : List Passed → ℕ
lost_in [] = 0
lost_in (a_line o ∷ ps) = lost_in ps
lost_in (a_cut k at ∷ ps) = lost_in ps
lost_in (a_broken o ∷ ps) = lost_in ps + 1
lost_in (a_reset r ∷ ps) = lost_in ps + r.dropped

-- The ticks that reports are judged by were recorded: they are those of the pieces of the epoch, and as many are made of them.
abbrev pub AreMade : List EpochEffects → List Epoch → Type 0
AreMade [] [] = Unit {0}
AreMade (e ∷ es) (d ∷ ds) = (e.made ≡ d.done) × (flat_map ticks_of e.pieces ≡ flat_map ticks_of d.pieces) × AreMade es ds
AreMade [] (d ∷ ds) = ⊥
AreMade (e ∷ es) [] = ⊥

-- A board has run over epochs, with a plan of so many blocks. What it took has taken a course to its end: each line was begun that it took, and each but one that a reset
-- has broken off is answered; each reset drops the lines of its epoch that have no answer, and each cut has a jog as its cause. It has
-- answered what the course tells, the banner first and Bye last, with reports among that. For each part of the course the planner was given
-- what its lines ask for; epochs were run for the parts, and these were published, the last with the end. It has ended an epoch for each
-- reset, whose Banner the course tells, and the lines that these left without an answer are those that the course has lost. What words of
-- flags have done in each epoch is as they were taken. Unless a line has raised an alarm, it found the link closed.
pub record BoardRan (blocks : ℕ) (d : BoardDid) : Type 0 where
  pub first : State
  pub opens : IsOpening first
  pub course : List Passed
  pub last : Point
  pub leads : LeadsTo (opening first) (items_in d.taken) course last []
  pub complete : last.unanswered ≡ false
  pub closes : last.before.alarmed ≡ false → d.closed ≡ true
  pub ends : EndsEpochs d.taken (joined d.taken) d.loaded d.at_answers
  pub causes : CutsHaveCauses (opening first) (items_in d.taken) course
  pub lost : lost_in course ≡ lines_among d.dropped
  pub greets : banners_in (told_in course) ≡ length d.dropped
  pub drops : (room : ℕ) → AllByRecursion (λ ls. length (ended ls) ≤ room) d.dropped → DropsAreFew room 0 (items_in d.taken) course
  pub console : IsTold course (without_byes d.answered)
  pub told : without_reports d.answered ≡ Banner ∷ (told_in course ++ Bye ∷ [])
  pub drives : List Driven
  pub driven : AreDriven blocks true origin fresh_plan (parts_of course) drives
  pub epochs : List Epoch
  pub run : AreRun (parts_of course) origin epochs
  pub over : AreOver epochs
  pub published_are : d.published ≡ published_in epochs
  pub before_end : List Piece
  pub ends_with : d.published ≡ before_end ++ pieces_as.End ∷ []
  pub once : AllByRecursion (λ q. q ≡ pieces_as.End → ⊥) before_end
  pub halts_are : d.halts ≡ reverse (halts_in 0 0 epochs)
  pub few : cuts_in course ≤ d.words.cancels
  pub effects : List EpochEffects
  pub doing : AreEffects course drives effects
  pub opened : AreOpened first origin false (resets_of course) effects
  pub reports : AllByRecursion HasReported effects
  pub locks : AllByRecursion TellsLock effects
  pub asking : AllByRecursion AsksInTurn effects
  pub answered_are : d.answered ≡ flat_map (λ e. e.answered) effects
  pub pieces : AllByRecursion ArePublished effects
  pub made : AreMade effects epochs
  pub taken_are : AreTakenIn d.words (map (λ e. e.taken) effects)

-- ---- the pulse

-- What a pulse has done at its ports: the pieces that it got or dropped; the halts that it stored, the latest first; and the records that
-- it put.
pub record PulseDid : Type 0 where
  pub got : List Piece
  pub halts : NewestFirst (ℕ × ℕ)
  pub put : List Record

-- A pulse has run. Halts part what it got or dropped into stretches; of each it put the first records, up to the ticks that it counted,
-- and all records of what it got behind the last halt, of which the last is the end.
pub record PulseRan (d : PulseDid) : Type 0 where
  pub stretches : List Stretch
  pub last : List Piece
  pub pieces : pieces_of_all stretches ++ last ≡ d.got
  pub halted : EndStretches d.halts stretches
  pub put : ArePutOver stretches last d.put
  pub before : List Piece
  pub ends : last ≡ before ++ pieces_as.End ∷ []
