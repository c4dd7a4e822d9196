-- Where a console tells less than what may come, or something else, and what can't be the next record.
use Rattle.std.specs.Prelude.{◌≡◌, ℕ, Bool, true, false, cond, not, ◌||◌, List, [], ◌∷◌, ◌++◌}
use Rattle.units.specs.declared.Steps3.{Steps3}
use Rattle.status_report.specs.Answering.{is_report, is_banner, is_bye}
use Rattle.status_report.specs.Replies.{reply_text}
use Rattle.status_report.specs.declared.Message.TheVariants.{Locked}
use Rattle.status_report.specs.declared.Reply.{Reply}
use Rattle.status_report.specs.declared.Reply.TheVariants.{Banner, Alarm, Message}
use Rattle.step_line.specs.declared.Record.{Record}
use Rattle.run_rules.specs.Work.{Outcome, tells}
use Rattle.run_texts.specs.Courses.{Passed, Reset, IsCut, IsReset}
use Rattle.run_texts.specs.Left.{part_of}
use Rattle.run_texts.specs.Making.{Making, IsMade}
use Rattle.run_texts.specs.Parts.Ending.{by_cut, by_reset}
use Rattle.run_texts.specs.Points.{Point, IsPassed, IsBroken, behind_broken}
use Rattle.run_texts.specs.Recorded.{IsRecorded}
use Rattle.run_texts.specs.Sent.{Sent}
use Rattle.run_texts.specs.Sent.Sent.{a_text}
use Rattle.audit_rules.specs.Consoles.{IsOnConsole, GoesOnWith, GoesOnAnew, Tells, TellsNext, is_of_reset}
use Rattle.audit_rules.specs.Onward.{TellsNothing}
use Rattle.audit_rules.specs.Standing.{AreUpTo, StandTo}
use Rattle.audit_rules.specs.StepTexts.{AreLinesOf, body_of, form_of, lines_text, records_of}
use Rattle.audit_rules.specs.Telling.{IsLineAtFault, IsOver, StandsUpTo}
use Rattle.step_record.specs.Forms.{line_text}
use Rattle.step_record.specs.declared.forms.Line.{Line}

-- ---- what a text begins with

-- with no report
abbrev pub BeginsWithNoReport : List ℕ → Type 0
BeginsWithNoReport rest = (report : Reply) (later : List ℕ) → is_report report ≡ true → IsOnConsole report → rest ≡ reply_text report ++ later → ⊥

-- Nor with this reply; `Bye` has no text.
pub record BeginsOtherwise (rest : List ℕ) (reply : Reply) : Type 0 where
  pub no_report : BeginsWithNoReport rest
  pub other : is_bye reply ≡ false → (later : List ℕ) → rest ≡ reply_text reply ++ later → ⊥

-- It tells these replies next, and then goes on otherwise than with this one.
pub record TellsShort (text : List ℕ) (heard : List Reply) (reply : Reply) : Type 0 where
  pub rest : List ℕ
  pub tells : TellsNext text heard rest
  pub goes_on : BeginsOtherwise rest reply

-- Between what a console tells first and what it tells then this is left of it, which begins with no report.
pub record StandsBetween (console : List ℕ) (first second : List Reply) (rest : List ℕ) : Type 0 where
  pub text : List ℕ
  pub tells : Tells console first text
  pub no_report : BeginsWithNoReport text
  pub on : TellsNext text second rest

-- ---- a line

-- Of what may become of the next line this alone tells first what the text begins with.
pub record BecomesAlone (p : Point) (kept : List ℕ) (text : List ℕ) (o : Outcome) : Type 0 where
  pub passed : IsPassed p kept o
  pub alone : (u : Outcome) (first : Reply) (more : List Reply) (later : List ℕ) → IsPassed p kept u → tells u.work ≡ first ∷ more → text ≡ reply_text first ++ later → u ≡ o

-- Of that the text tells a front at most. It does not go on with what is told at a reset.
pub record TellsLineShort (p : Point) (kept : List ℕ) (text : List ℕ) : Type 0 where
  pub no_report : BeginsWithNoReport text
  pub not_anew : GoesOnAnew text → ⊥
  pub outcome : Outcome
  pub becomes : BecomesAlone p kept text outcome
  pub heard : List Reply
  pub reply : Reply
  pub more : List Reply
  pub work : tells outcome.work ≡ heard ++ reply ∷ more
  pub short : TellsShort text heard reply

-- ---- what is at fault

-- At a point, behind this last answered line, nothing is told that may come, and that is not all of the job, or something is left
-- of the console: this line is at fault.
pub record FailsAt (p : Point) (left : List Sent) (rest : List ℕ) (last line : ℕ) : Type 0 where
  pub nothing : TellsNothing p left rest
  pub some : rest ≡ [] → IsOver p left → ⊥
  pub is : IsLineAtFault p left rest last line

-- ---- a reset

-- what is told at one, with its alarm or without, where the machine is locked already or not
abbrev pub told_with : Bool → Bool → List Reply
told_with alarm locked = cond alarm (Alarm 3 ∷ []) [] ++ Banner ∷ cond (alarm || locked) (Message Locked ∷ []) []

-- A text goes on with the first reply of a reset, and tells a front at most of what is told at one that begins so.
pub record TellsResetShort (p : Point) (text : List ℕ) : Type 0 where
  pub first : Reply
  pub is : is_of_reset first ≡ true
  pub goes_on : GoesOnWith text first
  pub heard : List Reply
  pub reply : Reply
  pub more : List Reply
  pub told : told_with (not (is_banner first)) p.locked ≡ heard ++ reply ∷ more
  pub short : TellsShort text heard reply

-- None may come, with its alarm or without, here or behind the next line.
pub record ResetRefused (p : Point) (left : List Sent) (alarm : Bool) : Type 0 where
  pub here : (r : Reset) → r.alarm ≡ alarm → IsReset p left r → ⊥
  pub behind : (kept : List ℕ) (more : List Sent) (o : Outcome) (r : Reset) → left ≡ a_text kept ∷ more → IsBroken p kept o → r.alarm ≡ alarm → IsReset (behind_broken p o) more r → ⊥

-- ---- steps

-- Steps were read up to a record: these lines, and this is left of the text. The next record, of these lines or else of the next
-- one, is of a kind.
pub record ReadsUpTo (steps : List ℕ) (lines : List Line) (rest : List ℕ) (records left : List Record) (May : Record → Type 0) : Type 0 where
  pub text : body_of steps ≡ lines_text lines ++ rest
  pub are : AreLinesOf (form_of steps) lines
  pub records_are : records ++ left ≡ records_of lines
  pub next_record : (r : Record) (others : List Record) → left ≡ r ∷ others → May r
  pub next_line : left ≡ [] → (line : Line) (more : List ℕ) → rest ≡ line_text line ++ more → AreLinesOf (form_of steps) (lines ++ line ∷ []) → (r : Record) × (others : List Record) × (records_of (line ∷ []) ≡ r ∷ others) × May r

-- Of steps that were read these lines stand, and a console stands by them up to a point, along a course.
pub record ComesUpTo (sent : List Sent) (console steps : List ℕ) (lines : List Line) (records left : List Record) (point : Point) (waiting : List Sent) (rest : List ℕ) (course : List Passed) : Type 0 where
  pub steps_stand : StandTo sent console steps
  pub are : AreUpTo steps_stand.done lines records left
  pub stands : StandsUpTo sent console (records_of steps_stand.done) point waiting rest
  pub is : stands.course ++ stands.others ≡ course

-- ---- the next record

-- A part that has made this of its lines does not make this record next, whatever lines come.
abbrev pub PartMakesNot : List Outcome → List Outcome → List Record → Record → Type 0
PartMakesNot since begun made r = (more : List Outcome) (m : Making) → IsMade ((since ++ begun) ++ more) (made ++ r ∷ []) m → ⊥

-- It may not be cut at a point, behind line k.
abbrev pub PartCutsNot : Point → Steps3 → List Outcome → List Outcome → List Record → ℕ → Type 0
PartCutsNot p place since begun made k = (at : Steps3) → IsCut p k → IsRecorded place (part_of since begun (by_cut k at)) made → ⊥

-- No reset may end it there, with its alarm or without.
abbrev pub PartResetsNot : Point → List Sent → Steps3 → List Outcome → List Outcome → List Record → ℕ → Bool → Type 0
PartResetsNot p left place since begun made k alarm = (r : Reset) → r.number ≡ k → r.alarm ≡ alarm → IsReset p left r → IsRecorded place (part_of since begun (by_reset r)) made → ⊥

-- a reset keeps no next line from its answer
abbrev pub BreaksNoLine : Point → List Sent → Type 0
BreaksNoLine p left = (kept : List ℕ) (more : List Sent) (o : Outcome) → left ≡ a_text kept ∷ more → IsBroken p kept o → ⊥
