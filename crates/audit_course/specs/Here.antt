-- What a judge refuses where it stands, whatever comes behind.
use Rattle.std.specs.Prelude.{◌≡◌, ℕ, Bool, List, [], ◌∷◌, ◌++◌}
use Rattle.units.specs.declared.Steps3.{Steps3}
use Rattle.status_report.specs.declared.Reply.{Reply}
use Rattle.step_line.specs.declared.Record.{Record}
use Rattle.run_rules.specs.declared.State.{State}
use Rattle.run_rules.specs.Work.{Outcome}
use Rattle.run_texts.specs.Courses.{Reset, IsCut, IsReset}
use Rattle.run_texts.specs.Left.{part_of}
use Rattle.run_texts.specs.Making.{Making, IsMade}
use Rattle.run_texts.specs.Parts.Ending.{by_cut, by_reset}
use Rattle.run_texts.specs.Recorded.{IsRecorded}
use Rattle.run_texts.specs.Sent.{Sent}
use Rattle.audit_course.specs.SoFar.{HasJudged}
use Rattle.audit_course.specs.declared.judge.CourseJudge.{CourseJudge}

-- Another judge of the same texts stands at the same point, where the part at hand has the same lines and records.
pub record StandsAlike (j k : CourseJudge) (first : State) (sent : List Sent) (replies : List Reply) (records : List Record) (s : HasJudged j first sent replies records) : Type 0 where
  pub there : HasJudged k first sent replies records
  pub point : there.point ≡ s.point
  pub since : there.since ≡ s.since
  pub begun : there.begun ≡ s.begun
  pub from : there.from ≡ s.from
  pub made : there.made ≡ s.made

-- nothing more was told, and it stands where it stood
abbrev pub StandsAsBefore : CourseJudge → CourseJudge → Type 0
StandsAsBefore j k = (first : State) (sent : List Sent) (replies : List Reply) (records : List Record) (s : HasJudged j first sent replies records) → StandsAlike j k first sent replies records s

-- The part does not make this record next, whatever lines come.
abbrev pub MakesNot : CourseJudge → Record → Type 0
MakesNot j r = (first : State) (sent : List Sent) (replies : List Reply) (records : List Record) (s : HasJudged j first sent replies records) (more : List Outcome) (m : Making)
    → IsMade ((s.since ++ s.begun) ++ more) (s.made ++ r ∷ []) m → ⊥

-- It may not be cut here, behind line k.
abbrev pub CutsNot : CourseJudge → ℕ → Type 0
CutsNot j k = (first : State) (sent : List Sent) (replies : List Reply) (records : List Record) (s : HasJudged j first sent replies records) (at : Steps3)
    → IsCut s.point k → IsRecorded s.from (part_of s.since s.begun (by_cut k at)) s.made → ⊥

-- No reset may end it here behind line k, which drops so many lines, told with or without its alarm.
abbrev pub ResetsNot : CourseJudge → ℕ → ℕ → Bool → Type 0
ResetsNot j k dropped alarm =
    (first : State) (sent : List Sent) (replies : List Reply) (records : List Record) (s : HasJudged j first sent replies records) (more : List Sent) (r : Reset)
    → r.number ≡ k → r.dropped ≡ dropped → r.alarm ≡ alarm → IsReset s.point more r → IsRecorded s.from (part_of s.since s.begun (by_reset r)) s.made → ⊥
