-- The last point of an audit at which all that was begun is answered and told, and what has come since.
use Rattle.std.specs.Prelude.{◌≡◌, ℕ, ◌+◌, ◌||◌, true, false, cond, List, [], ◌∷◌, ◌++◌, map, Some}
use Rattle.std.specs.List.{list_any}
use Rattle.status_report.specs.Answering.{is_answer}
use Rattle.status_report.specs.Replies.{reply_text}
use Rattle.status_report.specs.declared.Reply.{Reply}
use Rattle.step_line.specs.declared.Record.{Record}
use Rattle.step_record.specs.declared.forms.Line.{Line}
use Rattle.run_rules.specs.declared.State.{State}
use Rattle.run_rules.specs.Reports.{raises_alarm}
use Rattle.run_rules.specs.Work.{Task, Outcome, tells}
use Rattle.run_texts.specs.Courses.{Passed, Reset, IsReset}
use Rattle.run_texts.specs.Points.{Point, IsBroken, behind_broken, opening}
use Rattle.run_texts.specs.Sent.{Sent}
use Rattle.run_texts.specs.Sent.Sent.{a_text, a_stop}
use Rattle.run_texts.specs.SoFar.{LeadsTo}
use Rattle.run_texts.specs.Told.{told_in}
use Rattle.audit_rules.specs.Consoles.{GoesOnAnew}
use Rattle.audit_rules.specs.Faults.{BecomesAlone, ComesUpTo, told_with}
use Rattle.audit_rules.specs.Onward.{TellsNothing}
use Rattle.audit_rules.specs.Scanned.{sent_in}
use Rattle.audit_rules.specs.Telling.{last_answered}
use Rattle.audit_course.specs.Heard.{HasHeard}
use Rattle.audit_course.specs.Progressing.{has_halt}
use Rattle.audit_course.specs.SoFar.{is_of_reset, left_to_tell, texts_among}
use Rattle.audit_texts.specs.SoFar.{StandsAt, untold_of}
use Rattle.run_audit.specs.Coming.{is_alarm}
use Rattle.run_audit.specs.declared.auditor.Auditor.{Auditor}

-- ---- the safe point

-- Some lines of the steps stand, and the console stands by them up to a point, along a course.
pub record StandsBy (job console steps : List ℕ) (point : Point) (waiting : List Sent) (rest : List ℕ) (course : List Passed) : Type 0 where
  pub lines : List Line
  pub records : List Record
  pub left : List Record
  pub up_to : ComesUpTo (sent_in job) console steps lines records left point waiting rest course

-- Behind this of the job and these replies a course stands at a point where each line is answered and none has raised an alarm;
-- `last` is the last that was answered. This is left there of the job and of the console. If that tells nothing that may come
-- there, the console stands up to there, by the lines of the steps that stand.
pub record SafePoint (first : State) (job console steps : List ℕ) (front : List Sent) (told : List Reply) (last : ℕ) : Type 0 where
  pub point : Point
  pub answered : point.unanswered ≡ false
  pub free : point.before.alarmed ≡ false
  pub number : point.before.number ≡ texts_among front + 1
  pub course : List Passed
  pub leads : LeadsTo (opening first) front course point []
  pub tells : told_in course ≡ told
  pub last_is : last ≡ last_answered 1 0 course
  pub waiting : List Sent
  pub whole : sent_in job ≡ front ++ waiting
  pub rest : List ℕ
  pub stands : StandsAt console told rest
  pub comes : TellsNothing point waiting rest → StandsBy job console steps point waiting rest course

-- The text begins with this reply, and a reset tells it.
pub record BeginsAnew (reply : Reply) (rest : List ℕ) : Type 0 where
  pub of_reset : is_of_reset reply ≡ true
  pub later : List ℕ
  pub text : rest ≡ reply_text reply ++ later

-- ---- what has come since

-- The next line has come, which is answered or raises an alarm. Some of its tasks are done: this was heard of it. The job was
-- read up to it.
pub record LineSince (a : Auditor) (first : State) (job console steps : List ℕ) (front : List Sent) (told : List Reply) (last : ℕ) (s : SafePoint first job console steps front told last) (later : List Sent) (heard : List Reply) : Type 0 where
  pub kept : List ℕ
  pub more : List Sent
  pub waiting_is : s.waiting ≡ a_text kept ∷ more
  pub later_is : later ≡ a_text kept ∷ []
  pub not_anew : GoesOnAnew s.rest → ⊥
  pub outcome : Outcome
  pub becomes : BecomesAlone s.point kept s.rest outcome
  pub done : List Task
  pub work : outcome.work ≡ done ++ a.course.work.left
  pub heard_is : heard ≡ tells done
  pub unanswered : a.course.unanswered ≡ false
  pub halts : (a.course.line.halts || has_halt a.course.work.left) ≡ raises_alarm outcome
  pub number : a.course.work.number ≡ s.point.before.number + 1
  pub untold : untold_of a.sending ≡ []
  pub read_on : a.sending.over ≡ false
  pub answered : a.answered ≡ cond (list_any is_answer heard) s.point.before.number last

-- The next line has come, and waits for a reset, which the console tells; perhaps cuts have come behind it. A reset that may come
-- behind that line may come where the judge stands.
pub record WaitSince (a : Auditor) (first : State) (job console steps : List ℕ) (front : List Sent) (told : List Reply) (last : ℕ) (s : SafePoint first job console steps front told last) (later : List Sent) (heard : List Reply) : Type 0 where
  pub kept : List ℕ
  pub more : List Sent
  pub waiting_is : s.waiting ≡ a_text kept ∷ more
  pub later_is : later ≡ a_text kept ∷ []
  pub none : heard ≡ []
  pub unanswered : a.course.unanswered ≡ true
  pub outcome : Outcome
  pub broken : IsBroken s.point kept outcome
  pub now : Point
  pub stands : HasHeard a.course now [] [] []
  pub resets : (left : List Sent) (r : Reset) → IsReset (behind_broken s.point outcome) left r → IsReset now left r
  pub locked : now.locked ≡ s.point.locked
  pub reply : Reply
  pub anew : BeginsAnew reply s.rest
  pub number : a.course.work.number ≡ s.point.before.number + 1
  pub answered : a.answered ≡ last

-- A reset has come behind some lines, which it drops, or of which it keeps the first from its answer. Of what it tells this was
-- heard, and the rest is left to tell; its first reply says whether `ALARM:3` is told.
pub record ResetSince (a : Auditor) (first : State) (job console steps : List ℕ) (front : List Sent) (told : List Reply) (last : ℕ) (s : SafePoint first job console steps front told last) (later : List Sent) (heard : List Reply) : Type 0 where
  pub lines : List (List ℕ)
  pub more : List Sent
  pub waiting_is : s.waiting ≡ map a_text lines ++ a_stop ∷ more
  pub later_is : later ≡ map a_text lines ++ a_stop ∷ []
  pub reply : Reply
  pub anew : BeginsAnew reply s.rest
  pub greets : told_with (is_alarm (Some reply)) s.point.locked ≡ heard ++ left_to_tell a.course
  pub unanswered : a.course.unanswered ≡ false
  pub calm : a.course.line.halts ≡ false
  pub quiet : has_halt a.course.work.left ≡ false
  pub answered : a.answered ≡ last

pub data Since (a : Auditor) (first : State) (job console steps : List ℕ) (front : List Sent) (told : List Reply) (last : ℕ) (s : SafePoint first job console steps front told last) (later : List Sent) (heard : List Reply) : Type 0 where
  by_line : LineSince a first job console steps front told last s later heard → Since a first job console steps front told last s later heard
  by_wait : WaitSince a first job console steps front told last s later heard → Since a first job console steps front told last s later heard
  by_reset : ResetSince a first job console steps front told last s later heard → Since a first job console steps front told last s later heard

-- ---- where it stands

-- All of this was sent and told, nothing is left to do, and each line is answered: a course leads there, and the auditor knows the
-- last line that it answers.
pub record IsHere (a : Auditor) (first : State) (sent : List Sent) (replies : List Reply) : Type 0 where
  pub done : a.course.work.left ≡ []
  pub unanswered : a.course.unanswered ≡ false
  pub point : Point
  pub answered : point.unanswered ≡ false
  pub course : List Passed
  pub leads : LeadsTo (opening first) sent course point []
  pub tells : told_in course ≡ replies
  pub last_is : a.answered ≡ last_answered 1 0 course

-- something has come since the last safe point
pub record IsSince (a : Auditor) (first : State) (job console steps : List ℕ) (sent : List Sent) (replies : List Reply) : Type 0 where
  pub front : List Sent
  pub later : List Sent
  pub sent_is : sent ≡ front ++ later
  pub told : List Reply
  pub heard : List Reply
  pub replies_is : replies ≡ told ++ heard
  pub last : ℕ
  pub safe : SafePoint first job console steps front told last
  pub since : Since a first job console steps front told last safe later heard

-- An audit stands at a safe point, and no alarm was raised, or behind one.
pub data Stage (a : Auditor) (first : State) (job console steps : List ℕ) (sent : List Sent) (replies : List Reply) : Type 0 where
  at_safe : IsHere a first sent replies → a.course.line.halts ≡ false → Stage a first job console steps sent replies
  behind_safe : IsSince a first job console steps sent replies → Stage a first job console steps sent replies
