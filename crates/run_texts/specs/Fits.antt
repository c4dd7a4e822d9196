-- A job, a console and steps that fit.
use Rattle.std.specs.Prelude.{ℕ, ◌≤◌, List}
use Rattle.flight.specs.Places.{origin}
use Rattle.status_report.specs.declared.Reply.{Reply}
use Rattle.step_line.specs.declared.Record.{Record}
use Rattle.run_rules.specs.declared.State.{State}
use Rattle.run_rules.specs.States.{IsOpening}
use Rattle.run_texts.specs.Courses.{Passed, Follows, cuts_in}
use Rattle.run_texts.specs.Parts.{parts_of}
use Rattle.run_texts.specs.Points.{Point, opening}
use Rattle.run_texts.specs.Recorded.{AreRecorded}
use Rattle.run_texts.specs.Sent.{Sent}
use Rattle.run_texts.specs.Told.{IsTold}

-- The job takes a course, which the console tells and the steps record, part by part. `cancels` is how many bytes were
-- scanned that may cut jogs: `!` and 0x85 outside comments, but no 0x85 behind a line that raised the soft limit's alarm.
-- There are no more cuts than these.
pub record FitsTexts (sent : List Sent) (cancels : ℕ) (replies : List Reply) (records : List Record) : Type 0 where
  pub first : State
  pub opens : IsOpening first
  pub course : List Passed
  pub last : Point
  pub follows : Follows (opening first) sent course last
  pub told : IsTold course replies
  pub recorded : AreRecorded origin (parts_of course) records
  pub few : cuts_in course ≤ cancels
