-- What may come next of a job, a console and steps.
use Rattle.std.specs.Prelude.{◌≡◌, ◌≢◌, ℕ, Bool, true, false, List, [], ◌∷◌, Some}
use Rattle.std.specs.declared.option.Option.{Option}
use Rattle.status_report.specs.declared.Reply.{Reply}
use Rattle.status_report.specs.declared.Reply.TheVariants.{Alarm}
use Rattle.step_line.specs.declared.Mark.TheVariants.{Cut as CutMark, Reset as ResetMark}
use Rattle.step_line.specs.declared.Record.{Record}
use Rattle.step_line.specs.declared.Record.TheVariants as kinds
use Rattle.part_making.specs.Judging.{owed_of}
use Rattle.audit_course.specs.SoFar.{IsErrorOf, is_of_reset}
use Rattle.audit_course.specs.declared.MotionError.{MotionError}
use Rattle.audit_course.specs.declared.judge.CourseJudge.{CourseJudge}

-- something is owed of what the lines ask for
abbrev pub Owes : CourseJudge → Type 0
Owes j = owed_of j.part ≢ []

-- the first of these replies fits the error of the motion that was looked for, and no reset tells it
abbrev pub FitsError : MotionError → List Reply → Type 0
FitsError error [] = Unit {0}
FitsError error (r ∷ rs) = (is_of_reset r ≡ false) × IsErrorOf error r

-- the reply that is known comes first of these, and a reset tells it
pub record IsResetTold (known : Option Reply) (told : List Reply) : Type 0 where
  pub first : Reply
  pub behind : List Reply
  pub is : known ≡ Some first
  pub told_are : told ≡ first ∷ behind
  pub of_reset : is_of_reset first ≡ true

-- if this record ends a part, it is the mark of line n
abbrev pub MayBeOfLine : ℕ → Record → Type 0
MayBeOfLine n (kinds.Mark (CutMark k)) = k ≡ n
MayBeOfLine n (kinds.Mark (ResetMark k)) = k ≡ n
MayBeOfLine n kinds.End = ⊥
MayBeOfLine n _ = Unit {0}

-- a reply that is known is `ALARM:3`, or another alarm
abbrev pub is_alarm : Option Reply → Bool
is_alarm (Some (Alarm n)) = true
is_alarm _ = false
