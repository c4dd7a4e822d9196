-- Steps that break no rule so far, read from the left.
use Rattle.std.specs.Prelude.{◌≡◌, ℕ, ◌+◌, true, List, [], ◌∷◌, ◌++◌, length}
use Rattle.flight.specs.Places.{origin}
use Rattle.step_line.specs.declared.Record.{Record}
use Rattle.run_rules.specs.declared.State.{State}
use Rattle.run_rules.specs.States.{IsOpening}
use Rattle.run_texts.specs.Courses.{Passed, Reset, IsReset}
use Rattle.run_texts.specs.Parts.{parts_of}
use Rattle.run_texts.specs.Points.{Point, opening}
use Rattle.run_texts.specs.Sent.{Sent}
use Rattle.run_texts.specs.SoFar.{LeadsTo, AreMadeSoFar}
use Rattle.run_texts.specs.Told.{told_in, told_at_reset}
use Rattle.audit_rules.specs.Consoles.{Tells, TellsNext}
use Rattle.audit_rules.specs.StepTexts.{AreLinesOf, lines_text, records_of, heading, form_of, body_of}
use Rattle.step_record.specs.declared.forms.Line.{Line}
use Rattle.step_record.specs.Forms.{line_text}

-- a reset of the job comes, and the console tells next what is told at it
pub record GoesOnWithReset (p : Point) (left : List Sent) (rest : List ℕ) : Type 0 where
  pub reset : Reset
  pub is : IsReset p left reset
  pub later : List ℕ
  pub tells : TellsNext rest (told_at_reset reset) later

-- a line may be left unanswered where that is so
abbrev pub MayWait : Point → List Sent → List ℕ → Type 0
MayWait p left rest = p.unanswered ≡ true → GoesOnWithReset p left rest

-- These records break no rule: a course of the job leads to a point, the console tells what this course tells and then goes
-- on, and the records are those that its parts make, all ended but the last. Which line ends a part is not known before its
-- end comes; so a record stands also where only another one behind it can't.
pub record Stand (sent : List Sent) (console : List ℕ) (records : List Record) : Type 0 where
  pub first : State
  pub opens : IsOpening first
  pub course : List Passed
  pub point : Point
  pub left : List Sent
  pub leads : LeadsTo (opening first) sent course point left
  pub rest : List ℕ
  pub told : Tells console (told_in course) rest
  pub waits : MayWait point left rest
  pub made : AreMadeSoFar origin (parts_of course) records

-- The lines of a step text up to the first that breaks a rule, or ends the steps: they stand, and with the next line, if
-- one stands there, they do not. The end is no record of a part.
pub record StandTo (sent : List Sent) (console steps : List ℕ) : Type 0 where
  pub done : List Line
  pub rest : List ℕ
  pub text : body_of steps ≡ lines_text done ++ rest
  pub are : AreLinesOf (form_of steps) done
  pub stand : Stand sent console (records_of done)
  pub furthest : (line : Line) (more : List ℕ) → rest ≡ line_text line ++ more → AreLinesOf (form_of steps) (done ++ line ∷ []) →
      Stand sent console (records_of (done ++ line ∷ [])) → ⊥

-- where the first line behind them begins
abbrev pub place_behind : List ℕ → List Line → ℕ
place_behind steps done = length (heading (form_of steps)) + length (lines_text done)

-- Steps were read up to a record: these lines, and this is left of the text. Of their records some stand, but not with the next one,
-- or, if that is none, not with the records of the line that comes next.
pub record StandRead (sent : List Sent) (console steps : List ℕ) (lines : List Line) (rest : List ℕ) (records left : List Record) : Type 0 where
  pub text : body_of steps ≡ lines_text lines ++ rest
  pub are : AreLinesOf (form_of steps) lines
  pub records_are : records ++ left ≡ records_of lines
  pub stand : Stand sent console records
  pub no_record : (r : Record) (others : List Record) → left ≡ r ∷ others → Stand sent console (records ++ r ∷ []) → ⊥
  pub no_line : left ≡ [] → (line : Line) (more : List ℕ) → rest ≡ line_text line ++ more → AreLinesOf (form_of steps) (lines ++ line ∷ []) → Stand sent console (records_of (lines ++ line ∷ [])) → ⊥

-- Some of the lines stand, and behind them the line that holds the next record, if there is one.
pub record AreUpTo (done lines : List Line) (records left : List Record) : Type 0 where
  pub behind : List Line
  pub part : List Record
  pub lines_are : lines ≡ done ++ behind
  pub records_are : records ≡ records_of done ++ part
  pub none : left ≡ [] → (behind ≡ []) × (part ≡ [])
  pub some : (r : Record) (others : List Record) → left ≡ r ∷ others → (line : Line) × (more : List Line) × (tail : List Record) × (behind ≡ line ∷ more) × (records_of (line ∷ []) ≡ part ++ r ∷ tail)
