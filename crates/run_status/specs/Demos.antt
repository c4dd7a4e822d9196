-- A run of the generated job.
use Rattle.status_report.specs.Answering.{receive_room}
use Rattle.planner_runs.specs.Runs.{most_blocks}
use Rattle.std.specs.Prelude.{◌≡◌, ℕ, Bool, false, cond, List, [], ◌∷◌, Some, None}
use Rattle.outside.specs.Causes.{SourceState, SinkState}
use Rattle.outside.specs.Writing.{Took}
use Rattle.step_record.specs.declared.forms.Form.TheVariants.{One}
use Rattle.run_rules.specs.Told.{asked_in}
use Rattle.run_law.specs.declared.RunEnd.{RunEnd}
use Rattle.run_law.specs.Runs.{asks_change}
use Rattle.run_texts.specs.Courses.{lines_in}
use Rattle.run_texts.specs.Parts.{parts_of}
use Rattle.run_texts.specs.Parts.Ending.{by_end}
use Rattle.epoch_law.specs.Runs.{IsRun}
use Rattle.step_line.specs.declared.Record.{Record}
use Rattle.smooth_step.specs.Counts.{subticks_of_heads}
use Rattle.motion_pulse.specs.declared.pulse.Stepping.{Stepping}
use Rattle.motion_pulse.specs.declared.pulse.Stepping.TheVariants.{Events, Subticks}
use Rattle.demo_job.specs.Jobs.{job_lines, job_text, pins_text, summary}
use Rattle.demo_law.specs.Asked.{demo_asks}
use Rattle.run_status.specs.declared.Status.{Status}
use Rattle.run_status.specs.declared.Status.TheVariants.{Done, ConsoleFault, StepsFault}

-- a console that keeps nothing
abbrev pub keeps_nothing : SinkState
keeps_nothing = record { held = None; faults = 0 }

-- the generated job, of which this is left
abbrev pub generated : List ℕ → SourceState
generated left = record { left = Some left; faults = 0 }

-- the line on a run of the generated job, by how the machine was stepped: the summary, or how many subticks there were
abbrev pub demo_text : Stepping → (n subticks : ℕ) → List ℕ
demo_text Events n subticks = summary n
demo_text Subticks n subticks = pins_text n subticks

-- how many subticks the events of these records have: those of the heads, or none where the machine is stepped event by event
abbrev pub subticks_in : Stepping → List Record → ℕ
subticks_in Events records = 0
subticks_in Subticks records = subticks_of_heads records

-- A run of the generated job of n moves, whose console keeps nothing. All its lines are sent and answered `ok`, and ask for
-- its moves. They are one part, which neither a cut nor a reset ends, and no byte of it changes overrides, so that they are 100
-- percent throughout: the steps are those of these moves, in form 1. Then the console takes the line on the run: its lines, all
-- of them `ok`, the events of its moves, or how many subticks there were, and where the last of its moves goes; a front of that line
-- where the console fails. The subticks are those of the heads of the records, each n times 2 to the power of its level. The demo is done, unless a write of the steps failed, or of the console.
pub record IsDemo (n : ℕ) (stepping : Stepping) (console_was console_is steps_was steps_is : SinkState) (status : Status) : Type 0 where
  pub end : RunEnd
  pub left : List ℕ
  pub run : IsRun false receive_room most_blocks One (generated (job_text n)) (generated left)
      (record { console = keeps_nothing; steps = steps_was }) (record { console = keeps_nothing; steps = steps_is }) end
  pub sent : run.lines ≡ job_lines n
  pub accepted : end.errors ≡ 0
  pub uncut : parts_of run.fits.course ≡ record { lines = lines_in run.fits.course; begun = []; ending = by_end } ∷ []
  pub unchanged : asks_change run.scanned ≡ false
  pub asks : asked_in (lines_in run.fits.course) ≡ demo_asks run.fits.first.settings n
  pub subticks : ℕ
  pub counted : subticks ≡ subticks_in stepping run.records
  pub console_failed : Bool
  pub console : Took console_was console_is console_failed (demo_text stepping n subticks)
  pub status_is : status ≡ cond end.steps_failed StepsFault (cond console_failed ConsoleFault Done)
