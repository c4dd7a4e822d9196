-- A course behind the first record that breaks a rule: records count no more, and what is told is heard.
use Rattle.std.specs.Prelude.{◌≡◌, ◌≤◌, ◌++◌, ℕ, ◌+◌, Bool, true, false, not, ◌&&◌, ◌||◌, List, [], ◌∷◌, length, map}
use Rattle.units.specs.declared.Steps3.{Steps3}
use Rattle.status_report.specs.declared.Reply.{Reply}
use Rattle.run_rules.specs.declared.machine.Machine.{Machine}
use Rattle.run_rules.specs.Finding.{Found}
use Rattle.run_rules.specs.Work.{Outcome, tells}
use Rattle.run_texts.specs.Courses.{Passed, Reset, IsReset, behind_cut}
use Rattle.run_texts.specs.Points.{Point, BecomesAt, IsPassed, IsBroken}
use Rattle.run_texts.specs.Sent.{Sent}
use Rattle.run_texts.specs.Sent.Sent.{a_text, a_stop}
use Rattle.run_texts.specs.SoFar.{LeadsTo, RebasesNothing}
use Rattle.run_texts.specs.Told.{told_in}
use Rattle.audit_course.specs.Progressing.{has_halt}
use Rattle.audit_course.specs.SoFar.{OfLine, IsClosed, IsErrorOf, left_to_tell, texts_among}
use Rattle.audit_course.specs.declared.MotionError.{MotionError}
use Rattle.audit_course.specs.declared.judge.CourseJudge.{CourseJudge}

-- The course stands at this point as far as the judge knows it, with this line at hand, or none.
pub record KnowsPoint (j : CourseJudge) (p : Point) (hand : List Outcome) : Type 0 where
  pub number : p.before.number ≡ j.work.number
  pub state : p.before.state ≡ j.state
  pub same_state : j.unanswered ≡ false → j.state ≡ j.work.state
  pub locked : p.locked ≡ j.locked
  pub unanswered : p.unanswered ≡ j.unanswered
  pub line : OfLine j p hand
  pub at_hand : j.in_hand ≡ false → has_halt j.work.left ≡ false

-- Behind a point, at which this was told, the judge was told of these lines and resets, and of all these replies. A course that
-- has no cuts, and whose resets leave the position as it is, leads to where the judge stands, and tells them and what is left to
-- tell of the line at hand.
pub record HasHeard (j : CourseJudge) (p : Point) (before : List Reply) (sent : List Sent) (replies : List Reply) : Type 0 where
  pub point : Point
  pub number : point.before.number ≡ j.work.number
  pub state : point.before.state ≡ j.state
  pub same_state : j.unanswered ≡ false → j.state ≡ j.work.state
  pub locked : point.locked ≡ j.locked
  pub unanswered : point.unanswered ≡ j.unanswered
  pub hand : List Outcome
  pub line : OfLine j point hand
  pub at_hand : j.in_hand ≡ false → has_halt j.work.left ≡ false
  pub some : 1 ≤ p.before.number
  pub numbered : j.work.number ≡ p.before.number + texts_among sent
  pub course : List Passed
  pub leads : LeadsTo p sent course point []
  pub rebases : RebasesNothing p sent course
  pub tells : before ++ told_in course ≡ replies ++ left_to_tell j

-- ---- steps

-- the course stands where it stood
abbrev pub KeepsPoint : CourseJudge → CourseJudge → Type 0
KeepsPoint j k = (p : Point) (hand : List Outcome) → KnowsPoint j p hand → (now : List Outcome) × KnowsPoint k p now

-- A cut was made: it stands where it stood, behind the cut.
abbrev pub CutsPoint : CourseJudge → CourseJudge → Type 0
CutsPoint j k = (p : Point) (hand : List Outcome) → KnowsPoint j p hand → (at : Steps3) × (now : List Outcome) × KnowsPoint k (behind_cut at p) now

-- nothing more was told
abbrev pub StaysHeard : CourseJudge → CourseJudge → Type 0
StaysHeard j k = (p : Point) (before : List Reply) (sent : List Sent) (replies : List Reply) → HasHeard j p before sent replies → HasHeard k p before sent replies

-- these lines and resets more were told
abbrev pub HearsSent : CourseJudge → CourseJudge → List Sent → Type 0
HearsSent j k more = (p : Point) (before : List Reply) (sent : List Sent) (replies : List Reply) → HasHeard j p before sent replies → HasHeard k p before (sent ++ more) replies

-- a reply more was told
abbrev pub HearsReply : CourseJudge → CourseJudge → Reply → Type 0
HearsReply j k r = (p : Point) (before : List Reply) (sent : List Sent) (replies : List Reply) → HasHeard j p before sent replies → HasHeard k p before sent (replies ++ r ∷ [])

-- a reset of the job was told, behind some lines that it dropped; no record of it counts
abbrev pub HearsReset : CourseJudge → CourseJudge → ℕ → Type 0
HearsReset j k dropped = (lines : List (List ℕ)) → dropped ≡ length lines → HearsSent j k (map a_text lines ++ a_stop ∷ [])

-- a reset that no record tells may be told, with or without its alarm
pub record MayTellReset (j : CourseJudge) (alarm : Bool) : Type 0 where
  pub ends : IsClosed j
  pub calm : (not j.unanswered && j.line.halts) ≡ false
  pub cause : alarm ≡ true → (j.moved || j.jog_moved) ≡ true

-- ---- the line that is begun

-- it is begun as it is found, and all that it tells is left to tell, and all that it does is left to do
abbrev pub TellsFound : CourseJudge → CourseJudge → Machine → List ℕ → Type 0
TellsFound j k machine kept = (p : Point) (hand : List Outcome) → KnowsPoint j p hand → (o : Outcome) × Found machine p.before kept o × (left_to_tell k ≡ tells o.work) × (k.work.left ≡ o.work)

-- If it becomes what tells first a reply that fits the error, all that this tells is left to tell.
abbrev pub HearsAlone : CourseJudge → CourseJudge → MotionError → List ℕ → Type 0
HearsAlone j k error kept =
    (p : Point) (before : List Reply) (sent : List Sent) (replies : List Reply) (h : HasHeard j p before sent replies) (o : Outcome)
    → BecomesAt true h.point kept o → (r : Reply) (xs ys : List Reply) → tells o.work ++ ys ≡ r ∷ xs → IsErrorOf error r → left_to_tell k ≡ tells o.work

-- If the line becomes what tells first a reply that fits the error, it becomes this, and all that this does is left to do.
abbrev pub HearsLine : CourseJudge → CourseJudge → MotionError → List ℕ → Type 0
HearsLine j k error kept =
    (p : Point) (before : List Reply) (sent : List Sent) (replies : List Reply) (h : HasHeard j p before sent replies)
    → (o : Outcome) × BecomesAt true h.point kept o × (k.work.left ≡ o.work)
    × ((u : Outcome) → BecomesAt true h.point kept u → (r : Reply) (xs ys : List Reply) → tells u.work ++ ys ≡ r ∷ xs → IsErrorOf error r → u ≡ o)

-- ---- what may not come

-- No line may be begun where it stands, answered or not.
abbrev pub HearsNoLine : CourseJudge → Type 0
HearsNoLine j = (p : Point) (before : List Reply) (sent : List Sent) (replies : List Reply) (h : HasHeard j p before sent replies) (kept : List ℕ) (o : Outcome) → (IsPassed h.point kept o → ⊥) × (IsBroken h.point kept o → ⊥)

-- No reset may come, told with or without its alarm.
abbrev pub HearsNoReset : CourseJudge → Bool → Type 0
HearsNoReset j alarm = (p : Point) (before : List Reply) (sent : List Sent) (replies : List Reply) (h : HasHeard j p before sent replies) (more : List Sent) (r : Reset) → r.alarm ≡ alarm → IsReset h.point more r → ⊥
