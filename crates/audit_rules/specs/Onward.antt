-- How a course that stands goes on behind another one, on one console and one job.
use Rattle.std.specs.Prelude.{◌≡◌, ◌≤◌, ℕ, ◌+◌, Bool, true, false, List, [], ◌∷◌, ◌++◌}
use Rattle.units.specs.declared.Steps3.{Steps3}
use Rattle.flight.specs.Places.{origin}
use Rattle.status_report.specs.Answering.{is_report}
use Rattle.status_report.specs.Replies.{reply_text}
use Rattle.status_report.specs.declared.Reply.{Reply}
use Rattle.status_report.specs.declared.Reply.TheVariants.{Alarm}
use Rattle.step_line.specs.declared.Mark.TheVariants.{Cut, Reset as ResetMark}
use Rattle.step_line.specs.declared.Record.{Record}
use Rattle.step_line.specs.declared.Record.TheVariants as kinds
use Rattle.run_rules.specs.declared.State.{State}
use Rattle.run_rules.specs.States.{IsOpening}
use Rattle.run_rules.specs.Reports.{raises_alarm}
use Rattle.run_rules.specs.Work.{Outcome, soft_limit, tells}
use Rattle.run_texts.specs.Courses.{Passed, Reset, IsReset}
use Rattle.run_texts.specs.Courses.Passed.{a_line, a_broken}
use Rattle.run_texts.specs.Making.{Making, IsMade}
use Rattle.run_texts.specs.Parts.{parts_of}
use Rattle.run_texts.specs.Points.{Point, IsPassed, IsBroken, behind_broken}
use Rattle.run_texts.specs.Sent.{Sent}
use Rattle.run_texts.specs.Sent.Sent.{a_text}
use Rattle.run_texts.specs.SoFar.{LeadsTo, AreMadeSoFar, Reaches, RebasesNothing}
use Rattle.run_texts.specs.Told.{told_in, told_at_reset}
use Rattle.audit_rules.specs.Consoles.{IsOnConsole, GoesOnWith, Tells}
pub use Rattle.audit_rules.specs.Consoles.{TellsNext}
use Rattle.audit_rules.specs.Standing.{MayWait}

-- From a point, where this is left of the job and of the console, a course that rebases nothing leads to another one.
pub record GoesOnTo (p : Point) (left : List Sent) (rest : List ℕ) (q : Point) (gone : List Sent) (later : List ℕ) : Type 0 where
  pub course : List Passed
  pub leads : LeadsTo p left course q gone
  pub rebases : RebasesNothing p left course
  pub tells : TellsNext rest (told_in course) later

-- From a point, to which a course leads, another course leads on; with it the parts make these records.
pub record StandsBehind (course : List Passed) (p : Point) (left : List Sent) (rest : List ℕ) (records : List Record) : Type 0 where
  pub more : List Passed
  pub point : Point
  pub waiting : List Sent
  pub leads : LeadsTo p left more point waiting
  pub later : List ℕ
  pub tells : TellsNext rest (told_in more) later
  pub waits : MayWait point waiting later
  pub made : AreMadeSoFar origin (parts_of (course ++ more)) records

-- a line, answered or not, comes first of a course
abbrev pub begins_with_line : List Passed → Bool
begins_with_line [] = false
begins_with_line (a_line o ∷ ps) = true
begins_with_line (a_broken o ∷ ps) = true
begins_with_line (_ ∷ ps) = false

-- A course has come so far: from an opening it leads to a point, where this is left of the job, a console tells what it tells
-- and has this left, and its parts make these records. The last part has made `made` of its lines: of those that are
-- answered, and of the one that was begun, which stands only where a line is not answered.
pub record HasCome (sent : List Sent) (console : List ℕ) (records : List Record) (since begun : List Outcome) (made : List Record) : Type 0 where
  pub first : State
  pub opens : IsOpening first
  pub point : Point
  pub front : List Sent
  pub left : List Sent
  pub whole : sent ≡ front ++ left
  pub place : Steps3
  pub told : List Reply
  pub reached : Reaches first front told records point since begun place made
  pub rest : List ℕ
  pub tells : Tells console told rest
  pub waits : MayWait point left rest
  pub none_begun : point.unanswered ≡ false → begun ≡ []
  pub making : Making
  pub is_made : IsMade (since ++ begun) made making

-- ---- where nothing can be told

-- What is left of the console tells nothing that the next line may become.
abbrev pub TellsNoLine : Point → List Sent → List ℕ → Type 0
TellsNoLine p left rest = (kept : List ℕ) (more : List Sent) (o : Outcome) (later : List ℕ) → left ≡ a_text kept ∷ more → IsPassed p kept o → TellsNext rest (tells o.work) later → ⊥

-- Nor does it tell a reset that may come, whether or not that keeps the next line from its answer.
pub record TellsNoReset (p : Point) (left : List Sent) (rest : List ℕ) : Type 0 where
  pub here : (r : Reset) (later : List ℕ) → IsReset p left r → TellsNext rest (told_at_reset r) later → ⊥
  pub behind : (kept : List ℕ) (more : List Sent) (o : Outcome) (r : Reset) (later : List ℕ) → left ≡ a_text kept ∷ more → IsBroken p kept o → IsReset (behind_broken p o) more r
      → TellsNext rest (told_at_reset r) later → ⊥

-- Neither, and it begins with no report.
pub record TellsNothing (p : Point) (left : List Sent) (rest : List ℕ) : Type 0 where
  pub answered : p.unanswered ≡ false
  pub line : TellsNoLine p left rest
  pub reset : TellsNoReset p left rest
  pub no_report : (report : Reply) (later : List ℕ) → is_report report ≡ true → IsOnConsole report → rest ≡ reply_text report ++ later → ⊥

-- It does not go on with the alarm of a soft limit, where the next line may raise that.
abbrev pub TellsNoAlarm : Point → List Sent → List ℕ → Type 0
TellsNoAlarm p left rest = (kept : List ℕ) (more : List Sent) (o : Outcome) → left ≡ a_text kept ∷ more → IsPassed p kept o → raises_alarm o ≡ true → GoesOnWith rest (Alarm soft_limit) → ⊥

-- Record r comes of a line behind the last of n - 1 lines, of which these ticks are left: of their part nothing is left, or it is
-- the mark of a later line, or of a reset behind the last, or it is the end.
abbrev pub IsOfLater : ℕ → List Record → Record → Type 0
IsOfLater n ticks (kinds.Mark (Cut k)) = n ≤ k
IsOfLater n ticks (kinds.Mark (ResetMark k)) = n ≤ k + 1
IsOfLater n ticks kinds.End = Unit {0}
IsOfLater n ticks r = ticks ≡ []

-- a mark that ends a part behind line n
abbrev pub IsMarkOf : ℕ → Record → Type 0
IsMarkOf n (kinds.Mark (Cut k)) = n ≡ k
IsMarkOf n (kinds.Mark (ResetMark k)) = n ≡ k
IsMarkOf n _ = ⊥
