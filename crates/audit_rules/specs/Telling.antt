-- How far a console can stand, whatever the steps are behind the first record that breaks a rule.
use Rattle.std.specs.Prelude.{◌≡◌, ◌≤◌, ℕ, ◌+◌, true, false, cond, List, [], ◌∷◌, ◌++◌, length}
use Rattle.flight.specs.Places.{origin}
use Rattle.status_report.specs.declared.Reply.TheVariants.{Banner, Alarm}
use Rattle.status_report.specs.Replies.{reply_text}
use Rattle.step_line.specs.declared.Record.{Record}
use Rattle.run_rules.specs.declared.State.{State}
use Rattle.run_rules.specs.States.{IsOpening}
use Rattle.run_rules.specs.Outcomes.{either}
use Rattle.run_rules.specs.Reports.{raises_alarm}
use Rattle.run_rules.specs.Work.{Outcome, soft_limit}
use Rattle.run_texts.specs.Courses.{Passed}
use Rattle.run_texts.specs.Courses.Passed.{a_line, a_broken, a_cut, a_reset}
use Rattle.run_texts.specs.Parts.{parts_of}
use Rattle.run_texts.specs.Points.{Point, opening, IsPassed}
use Rattle.run_texts.specs.Sent.{Sent, has_reset}
use Rattle.run_texts.specs.Sent.Sent.{a_text, a_stop}
use Rattle.run_texts.specs.SoFar.{LeadsTo, AreMadeSoFar}
pub use Rattle.run_texts.specs.SoFar.{RebasesNothing}
use Rattle.run_texts.specs.Told.{told_in}
use Rattle.audit_rules.specs.Consoles.{Tells, GoesOnWith, GoesOnAnew}
use Rattle.audit_rules.specs.Standing.{MayWait, StandTo}
use Rattle.audit_rules.specs.StepTexts.{records_of}

-- ---- a course

-- the last line that a course answers, of lines from this number on; else this one
abbrev pub last_answered : ℕ → ℕ → List Passed → ℕ
last_answered next last [] = last
last_answered next last (a_line o ∷ ps) = last_answered (next + 1) (cond (raises_alarm o) last next) ps
last_answered next last (a_broken o ∷ ps) = last_answered (next + 1) last ps
last_answered next last (a_cut k at ∷ ps) = last_answered next last ps
last_answered next last (a_reset r ∷ ps) = last_answered (r.number + r.dropped + 1) last ps

-- A console stands up to a point, where this is left of the job and of the console: a course leads there whose first
-- items make these records, cuts and resets with them, and whose others rebase nothing.
pub record StandsUpTo (sent : List Sent) (console : List ℕ) (records : List Record) (point : Point) (left : List Sent) (rest : List ℕ) : Type 0 where
  pub first : State
  pub opens : IsOpening first
  pub course : List Passed
  pub between : Point
  pub waiting : List Sent
  pub leads : LeadsTo (opening first) sent course between waiting
  pub made : AreMadeSoFar origin (parts_of course) records
  pub others : List Passed
  pub goes_on : LeadsTo between waiting others point left
  pub rebases : RebasesNothing between waiting others
  pub told : Tells console (told_in (course ++ others)) rest
  pub waits : MayWait point left rest

-- ---- a console that stands

-- All lines that were begun are answered, and nothing is left of the job but behind an alarm.
pub record IsOver (p : Point) (left : List Sent) : Type 0 where
  pub answered : p.unanswered ≡ false
  pub rest : either p.before.alarmed (Unit {0}) (left ≡ [])

-- It stands whole, by a job and by steps, of which the records up to the first that breaks a rule count.
pub record ConsoleStands (sent : List Sent) (console steps : List ℕ) : Type 0 where
  pub steps_stand : StandTo sent console steps
  pub point : Point
  pub left : List Sent
  pub stands : StandsUpTo sent console (records_of steps_stand.done) point left []
  pub over : IsOver point left

-- ---- one that does not

-- a line waits for its answer, and not for what a reset tells
abbrev pub IsAwaited : List Sent → List ℕ → Type 0
IsAwaited [] rest = ⊥
IsAwaited (a_stop ∷ left) rest = ⊥
IsAwaited (a_text line ∷ left) rest = (has_reset left ≡ true) → GoesOnAnew rest → ⊥

-- The line whose reply, or whose absence, can't stand at a point. What belongs to no line has the number behind that of the
-- last line that was answered.
pub data IsLineAtFault (p : Point) (left : List Sent) (rest : List ℕ) (last : ℕ) (line : ℕ) : Type 0 where
  at_line : p.before.alarmed ≡ false → IsAwaited left rest → line ≡ p.before.number → IsLineAtFault p left rest last line
  behind_alarm : p.before.alarmed ≡ true → line ≡ last + 1 → IsLineAtFault p left rest last line
  at_none : p.before.alarmed ≡ false → (IsAwaited left rest → ⊥) → line ≡ last + 1 → IsLineAtFault p left rest last line

-- It stands up to a point, and no further: no course tells more of it. It does not stand whole.
pub record StandsNoFurther (sent : List Sent) (console steps : List ℕ) (line : ℕ) : Type 0 where
  pub bad : ConsoleStands sent console steps → ⊥
  pub steps_stand : StandTo sent console steps
  pub point : Point
  pub left : List Sent
  pub rest : List ℕ
  pub stands : StandsUpTo sent console (records_of steps_stand.done) point left rest
  pub answered : point.unanswered ≡ false
  pub furthest : (p : Point) (waiting : List Sent) (more : List ℕ) → StandsUpTo sent console (records_of steps_stand.done) p waiting more → length rest ≤ length more
  pub is : IsLineAtFault point left rest (last_answered 1 0 (stands.course ++ stands.others)) line

-- a console that does not begin with the banner stands nowhere
abbrev pub HasNoBanner : List ℕ → Type 0
HasNoBanner console = (rest : List ℕ) → console ≡ reply_text Banner ++ rest → ⊥

pub data HasBadReply (sent : List Sent) (console steps : List ℕ) (line : ℕ) : Type 0 where
  at_once : HasNoBanner console → line ≡ 1 → HasBadReply sent console steps line
  behind : StandsNoFurther sent console steps line → HasBadReply sent console steps line

-- ---- an alarm

-- Line k raises the alarm of a soft limit: the console stands up to it, and goes on with that alarm.
pub record HasAlarm (sent : List Sent) (console steps : List ℕ) (k : ℕ) : Type 0 where
  pub steps_stand : StandTo sent console steps
  pub point : Point
  pub line : List ℕ
  pub left : List Sent
  pub rest : List ℕ
  pub stands : StandsUpTo sent console (records_of steps_stand.done) point (a_text line ∷ left) rest
  pub outcome : Outcome
  pub passed : IsPassed point line outcome
  pub raises : raises_alarm outcome ≡ true
  pub tells : GoesOnWith rest (Alarm soft_limit)
  pub number : point.before.number ≡ k
