-- How far an audit has come, and why the next record breaks a rule, if it has.
use Rattle.std.specs.Prelude.{◌≡◌, ◌<◌, ℕ, ◌+◌, ◌-◌, ◌*◌, true, false, cond, nat_eq, List, [], ◌∷◌, ◌++◌, length, Some, None}
use Rattle.std.specs.declared.option.Option.{Option}
use Rattle.std.specs.List.{AllByRecursion}
use Rattle.outside.specs.Causes.{SourceState}
use Rattle.units.specs.declared.Steps3.{Steps3}
use Rattle.status_report.specs.declared.Reply.{Reply}
use Rattle.step_line.specs.declared.Record.{Record}
use Rattle.step_record.specs.declared.forms.Line.{Line}
use Rattle.run_rules.specs.declared.State.{State}
use Rattle.run_rules.specs.States.{IsOpening}
use Rattle.run_rules.specs.Work.{Outcome}
use Rattle.run_texts.specs.Making.{Making, IsMade}
use Rattle.run_texts.specs.Parts.{is_ending}
use Rattle.run_texts.specs.Points.{Point}
use Rattle.run_texts.specs.Sent.{Sent}
use Rattle.run_texts.specs.SoFar.{Reaches}
use Rattle.part_making.specs.Judging.{owed_of}
use Rattle.audit_rules.specs.Consoles.{Tells}
use Rattle.audit_rules.specs.Findings.{BreaksAt}
use Rattle.audit_rules.specs.Onward.{IsMarkOf, IsOfLater}
use Rattle.audit_rules.specs.Scanned.{sent_in}
use Rattle.audit_rules.specs.Standing.{AreUpTo, MayWait, Stand, StandRead, StandTo}
use Rattle.audit_rules.specs.StepTexts.{AreLinesOf, body_of, form_of, lines_text, records_of}
use Rattle.audit_course.specs.Heard.{HasHeard}
use Rattle.audit_course.specs.SoFar.{HasJudged, has_moved, is_of_reset, left_to_tell}
use Rattle.audit_course.specs.declared.MotionError.{MotionError}
use Rattle.audit_course.specs.declared.judge.CourseJudge.{CourseJudge}
use Rattle.audit_texts.specs.SoFar.{IsNextOn, StandsAt, StandsIn, looked_for}
use Rattle.run_audit.specs.Coming.{FitsError, MayBeOfLine, Owes, is_alarm}
use Rattle.run_audit.specs.SafePoint.{Stage}
use Rattle.run_audit.specs.UnderWay.{AreRead}
use Rattle.run_audit.specs.declared.auditor.Auditor.{Auditor}

-- ---- what is known of the texts

-- steps begin with these records
pub record ReadsAs (steps : List ℕ) (records : List Record) : Type 0 where
  pub lines : List Line
  pub rest : List ℕ
  pub body : body_of steps ≡ lines_text lines ++ rest
  pub are : AreLinesOf (form_of steps) lines
  pub left : List Record
  pub records_are : records ++ left ≡ records_of lines

-- A course leads to a point, and is told: of the job and of the console this is left there.
pub record IsToldTo (job console : List ℕ) (point : Point) (sent : List Sent) (told : List Reply) (left : List Sent) (rest : List ℕ) : Type 0 where
  pub whole : sent_in job ≡ sent ++ left
  pub tells : Tells console told rest
  pub waits : MayWait point left rest

-- Behind these records, and others that end no part, no mark of a line before line n - 1 stands that comes there.
abbrev pub NoneEarly : List ℕ → List ℕ → List ℕ → ℕ → List Record → Type 0
NoneEarly job console steps n records =
    (xs : List Record) → AllByRecursion (λ r. is_ending r ≡ false) xs → (m : Record) (k : ℕ) → IsMarkOf k m → k + 1 < n → ReadsAs steps (records ++ (xs ++ m ∷ [])) → Stand (sent_in job) console (records ++ (xs ++ m ∷ [])) → ⊥

-- ---- while records count

-- The judge was told all that was read. If all is told that its lines tell, no mark of an earlier line stands next. Something that a
-- line asks for is left out only where the next record ends the part.
pub record Counting (a : Auditor) (first : State) (job console steps : List ℕ) (sent : List Sent) (replies : List Reply) (records : List Record) : Type 0 where
  pub counts : a.broken ≡ None
  pub judged : HasJudged a.course first sent replies records
  pub early : (left : List Sent) (rest : List ℕ) → sent_in job ≡ sent ++ left → Tells console (replies ++ left_to_tell a.course) rest → NoneEarly job console steps a.course.work.number records
  pub stops : a.course.lost ≡ true → (r : Record) → ReadsAs steps (records ++ r ∷ []) → is_ending r ≡ true

-- ---- behind the first record that breaks a rule

-- Behind these records steps stand no further, and break a rule at this byte.
pub record BreaksThere (job console steps : List ℕ) (records : List Record) (at : ℕ) : Type 0 where
  pub lines : List Line
  pub text : List ℕ
  pub left : List Record
  pub read : StandRead (sent_in job) console steps lines text records left
  pub place : (z : StandTo (sent_in job) console steps) → AreUpTo z.done lines records left → BreaksAt job console steps at

-- The next record broke a rule where a course stood at a point, with all that its last line tells. Where that is told, steps break a
-- rule there. Since then the judge has heard on.
pub record Broken (a : Auditor) (first : State) (job console steps : List ℕ) (sent : List Sent) (replies : List Reply) (records : List Record) : Type 0 where
  pub at : ℕ
  pub broken : a.broken ≡ Some at
  pub front : List Sent
  pub later : List Sent
  pub sent_is : sent ≡ front ++ later
  pub told : List Reply
  pub point : Point
  pub since : List Outcome
  pub begun : List Outcome
  pub none_begun : point.unanswered ≡ false → begun ≡ []
  pub place : Steps3
  pub made : List Record
  pub reached : Reaches first front told records point since begun place made
  pub making : Making
  pub is_made : IsMade (since ++ begun) made making
  pub breaks : (left : List Sent) (rest : List ℕ) → IsToldTo job console point front told left rest → BreaksThere job console steps records at
  pub heard : HasHeard a.course point told later replies

pub data Phase (a : Auditor) (first : State) (job console steps : List ℕ) (sent : List Sent) (replies : List Reply) (records : List Record) : Type 0 where
  counting : Counting a first job console steps sent replies records → Phase a first job console steps sent replies records
  broken : Broken a first job console steps sent replies records → Phase a first job console steps sent replies records

-- ---- on its way

-- An audit of three texts is on its way: this was read and told, records count or one has broken a rule, and it stands at a safe
-- point or behind one. No alarm was raised before the line at hand.
pub record IsOnWay (a : Auditor) (job console steps : SourceState) (job_text console_text steps_text : List ℕ) : Type 0 where
  pub first : State
  pub opens : IsOpening first
  pub sent : List Sent
  pub replies : List Reply
  pub records : List Record
  pub are_read : AreRead a job console steps job_text console_text steps_text sent replies records
  pub phase : Phase a first job_text console_text steps_text sent replies records
  pub stage : Stage a first job_text console_text steps_text sent replies
  pub calm : a.sending.last ≡ None

-- So much was done: five steps at most for a record, a hundred for a line or a reset, and for the record that breaks a rule; the tasks of
-- the line at hand are counted before.
abbrev pub extra_of : Option ℕ → ℕ
extra_of None = 0
extra_of (Some at) = 200

abbrev pub done_by : Auditor → List Sent → List Record → ℕ
done_by a sent records = 5 * length records + 100 * length sent + extra_of a.broken

-- ---- what was looked at

-- the record that comes next, where records count; none, where they do not
abbrev pub IsLooked : Auditor → List ℕ → List Record → Option Record → Type 0
IsLooked a steps records None = a.broken ≡ None → ⊥
IsLooked a steps records (Some r) = (a.broken ≡ None) × StandsIn steps records a.recorded.at r

-- The line at hand is done, and the record that comes next is of no earlier one.
pub record IsLater (j : CourseJudge) (next : Option Record) : Type 0 where
  pub done : j.work.left ≡ []
  pub owes : (r : Record) → next ≡ Some r → is_ending r ≡ false → owed_of j.part ≡ []
  pub order : (r : Record) → next ≡ Some r → IsOfLater j.work.number [] r

-- behind what it was told, this is left of the console, which begins with this reply, or with none that is looked for
abbrev pub HearsNext : Option Reply → List ℕ → List Reply → Type 0
HearsNext known console replies = (rest : List ℕ) × StandsAt console replies rest × IsNextOn known rest

-- what comes next ends the part, if something is owed of what the lines ask for
abbrev pub IsUnowed : CourseJudge → Option Record → Type 0
IsUnowed j next = (r : Record) → next ≡ Some r → Owes j → is_ending r ≡ true

-- ---- what is known before it is told

-- a reset tells it
abbrev pub TellsReset : Option Reply → Type 0
TellsReset known = (reply : Reply) × (known ≡ Some reply) × (is_of_reset reply ≡ true)

-- no reset tells it
abbrev pub TellsNoReset : Option Reply → Type 0
TellsNoReset known = (reply : Reply) → known ≡ Some reply → is_of_reset reply ≡ false

-- what is told then fits this error of a motion
abbrev pub IsErrorBy : MotionError → Option Reply → Type 0
IsErrorBy error known = (told : List Reply) → known ≡ looked_for told → FitsError error told

-- ---- what a reset needs

-- its mark comes behind the line before line n, if records count
abbrev pub IsMarkBehind : Option ℕ → ℕ → Type 0
IsMarkBehind mark n = (k : ℕ) → mark ≡ Some k → k + 1 ≡ n

-- a record, if records count, may be of line n
abbrev pub MayBeOf : ℕ → Option Record → Type 0
MayBeOf n None = Unit {0}
MayBeOf n (Some r) = MayBeOfLine n r

-- its alarm has a cause, or a line waits
abbrev pub HasCause : CourseJudge → Option Reply → Type 0
HasCause j known = is_alarm known ≡ true → j.unanswered ≡ false → has_moved j ≡ true

-- Where no reset comes, the line that waits has the bad reply: one that was begun, or the next of the job, if there is one.
abbrev pub line_waiting : CourseJudge → ℕ → ℕ → ℕ
line_waiting j waiting answered = cond j.unanswered (j.work.number - 1) (cond (nat_eq waiting 0) (answered + 1) j.work.number)
