-- How far an audit has come: what its judge was told of the three texts, and what is found.
use Rattle.std.specs.Prelude.{◌≡◌, ◌≤◌, ℕ, false, List, [], ◌++◌, Some, None}
use Rattle.std.specs.declared.option.Option.{Option}
use Rattle.outside.specs.Causes.{SourceState}
use Rattle.status_report.specs.declared.Reply.{Reply}
use Rattle.step_line.specs.declared.Mark.TheVariants.{Reset as ResetMark}
use Rattle.step_line.specs.declared.Record.{Record}
use Rattle.step_line.specs.declared.Record.TheVariants as kinds
use Rattle.run_rules.specs.declared.State.{State}
use Rattle.run_rules.specs.States.{IsOpening}
use Rattle.run_texts.specs.Sent.{Sent}
use Rattle.audit_rules.specs.Findings.{FitsWith, HasForeign, IsTooLong}
use Rattle.audit_rules.specs.Scanned.{scanned}
use Rattle.audit_rules.specs.Telling.{HasNoBanner}
use Rattle.audit_course.specs.SoFar.{HasJudged, EndsSoFar, MayBegin}
use Rattle.audit_texts.specs.Audited.{AllAudited, IsFirstForeign}
use Rattle.run_audit.specs.declared.auditor.Auditor.{Auditor}
use Rattle.run_audit.specs.declared.auditor.Finding.{Finding}
use Rattle.run_audit.specs.declared.auditor.Finding.TheVariants.{Fits, Misfit, BadReplies, Foreign, TooLong}
use Rattle.audit_texts.specs.SoFar.{ConsoleSoFar, IsAllRead, IsReadTo, IsWhole, JobSoFar, Opens, StepsSoFar}
use Rattle.audit_texts.specs.declared.listening.Listening.{Listening}

pub record AreRead (a : Auditor) (job console steps : SourceState) (job_text console_text steps_text : List ℕ) (sent : List Sent) (replies : List Reply) (records : List Record) : Type 0 where
  pub job_so_far : JobSoFar a.sending job job_text sent
  pub console_so_far : ConsoleSoFar a.listening console console_text replies
  pub steps_so_far : StepsSoFar a.recorded steps steps_text records

-- While records count, the judge was told all of it that was read, and knows it.
pub record IsUnderWay (a : Auditor) (job console steps : SourceState) (job_text console_text steps_text : List ℕ) : Type 0 where
  pub first : State
  pub opens : IsOpening first
  pub sent : List Sent
  pub replies : List Reply
  pub records : List Record
  pub are_read : AreRead a job console steps job_text console_text steps_text sent replies records
  pub judged : a.broken ≡ None → HasJudged a.course first sent replies records

-- the record that comes next; none, if records count no more
abbrev pub IsNext : Auditor → Option Record → Type 0
IsNext a None = a.broken ≡ None → ⊥
IsNext a (Some r) = a.recorded.next ≡ Some r

abbrev pub mark_of : Option ℕ → Option Record
mark_of None = None
mark_of (Some k) = Some (kinds.Mark (ResetMark k))

-- Nothing was told yet, no line is at hand, and no record has broken a rule; the form of the steps was read.
pub record IsOpened (a : Auditor) (job console steps : SourceState) (job_text console_text steps_text : List ℕ) : Type 0 where
  pub first : State
  pub opens : IsOpening first
  pub job_so_far : JobSoFar a.sending job job_text []
  pub console_opens : Opens a.listening console console_text
  pub steps_so_far : StepsSoFar a.recorded steps steps_text []
  pub judged : HasJudged a.course first [] [] []
  pub begins : MayBegin a.course
  pub kept : a.course.lost ≡ false
  pub counts : a.broken ≡ None
  pub answered : a.answered ≡ 0
  pub calm : a.sending.last ≡ None

-- It is under way, and the judge was not told yet of this of the job.
pub record IsDropping (a : Auditor) (job console steps : SourceState) (job_text console_text steps_text : List ℕ) (more : List Sent) : Type 0 where
  pub first : State
  pub opens : IsOpening first
  pub sent : List Sent
  pub replies : List Reply
  pub records : List Record
  pub are_read : AreRead a job console steps job_text console_text steps_text (sent ++ more) replies records
  pub judged : a.broken ≡ None → HasJudged a.course first sent replies records

-- ---- what is found

-- it is right, as far as that is proved
abbrev pub IsRight : List ℕ → List ℕ → List ℕ → Finding → Type 0
IsRight job console steps (Fits events) = ((f : FitsWith job console steps events) × AllAudited f.fit.sent) × (HasForeign job console steps → ⊥)
IsRight job console steps (Misfit at) = HasNoBanner console → ⊥
IsRight job console steps (BadReplies line) = HasNoBanner console → line ≡ 1
IsRight job console steps (Foreign line) = IsFirstForeign (scanned job).lines line
IsRight job console steps TooLong = IsTooLong console steps

-- no text is too long, unless that is found
abbrev pub IsShort : List ℕ → List ℕ → Finding → Type 0
IsShort console steps (Fits events) = IsTooLong console steps → ⊥
IsShort console steps (Misfit at) = IsTooLong console steps → ⊥
IsShort console steps (BadReplies line) = IsTooLong console steps → ⊥
IsShort console steps (Foreign line) = IsTooLong console steps → ⊥
IsShort console steps TooLong = Unit {0}

-- what is found of texts that are read to their ends
pub record IsSaid (job console steps : List ℕ) (found : Finding) : Type 0 where
  pub right : IsRight job console steps found
  pub short : IsShort console steps found

-- the three texts can be read on
pub record CanBeRead (a : Auditor) (job console steps : SourceState) (job_text console_text steps_text : List ℕ) : Type 0 where
  pub sent : List Sent
  pub job_so_far : JobSoFar a.sending job job_text sent
  pub console_read : IsReadTo a.listening.reader.window console a.listening.reader.place console_text
  pub steps_read : IsReadTo a.recorded.reader.window steps a.recorded.reader.place steps_text

-- of an auditor all stays but what was read of the job
pub record OthersStay (a b : Auditor) : Type 0 where
  pub course : b.course ≡ a.course
  pub listening : b.listening ≡ a.listening
  pub recorded : b.recorded ≡ a.recorded
  pub broken : b.broken ≡ a.broken
  pub last : b.sending.last ≡ a.sending.last

-- all stays but what was read of the job, and whether an alarm was raised
pub record JudgeStays (a b : Auditor) : Type 0 where
  pub course : b.course ≡ a.course
  pub listening : b.listening ≡ a.listening
  pub recorded : b.recorded ≡ a.recorded
  pub broken : b.broken ≡ a.broken

-- the end may come; all is told that is sent, each line is audited, and the cuts have their bytes
pub record MayFit (a b : Auditor) : Type 0 where
  pub ends : EndsSoFar a.course b.course
  pub told : IsAllRead a.sending b.course.line.halts b.course.work.number
  pub few : b.course.cuts ≤ a.sending.cuts
  pub audited : a.sending.foreign ≡ 0

-- the last step, by which something was found
abbrev pub Finishes : Auditor → Auditor → (job console steps console_now steps_now : SourceState) → Option Finding → Type 0
Finishes a b job console steps console_now steps_now None = ⊥
Finishes a b job console steps console_now steps_now (Some found) =
    (job_text console_text steps_text : List ℕ) → IsUnderWay a job console steps job_text console_text steps_text → CanBeRead b job console_now steps_now job_text console_text steps_text × IsRight job_text console_text steps_text found

-- one step more, by which something was found, or nothing yet
abbrev pub GoesOn : Auditor → Auditor → (job console steps job_now console_now steps_now : SourceState) → Option Finding → Type 0
GoesOn a b job console steps job_now console_now steps_now None =
    (job_text console_text steps_text : List ℕ) → IsUnderWay a job console steps job_text console_text steps_text → IsUnderWay b job_now console_now steps_now job_text console_text steps_text
GoesOn a b job console steps job_now console_now steps_now (Some found) =
    (job_text console_text steps_text : List ℕ) → IsUnderWay a job console steps job_text console_text steps_text → CanBeRead b job_now console_now steps_now job_text console_text steps_text × IsRight job_text console_text steps_text found

-- the steps' part of the last step, where the console was read to its end and told no more
abbrev pub FinishesSteps : Auditor → Auditor → (steps steps_now : SourceState) → Option Finding → Type 0
FinishesSteps a b steps steps_now None = ⊥
FinishesSteps a b steps steps_now (Some found) =
    (before : Listening) (job console console_now : SourceState) (job_text console_text steps_text : List ℕ) → (u : IsUnderWay (record a { listening = before }) job console steps job_text console_text steps_text)
    → IsWhole console_text u.replies → IsReadTo a.listening.reader.window console_now a.listening.reader.place console_text
    → CanBeRead b job console_now steps_now job_text console_text steps_text × IsRight job_text console_text steps_text found
