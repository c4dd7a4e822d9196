-- What a run leaves in its sinks, where no device failed.
use Rattle.std.specs.Prelude.{◌≡◌, ℕ, false, List, [], ◌∷◌, Some}
use Rattle.std.specs.List.{AllByRecursion}
use Rattle.outside.specs.Causes.{SourceState, SinkState}
use Rattle.run_law.specs.Runs.{Sinks}
use Rattle.run_law.specs.declared.RunEnd.{RunEnd}
use Rattle.run_rules.specs.Told.{replies_text}
use Rattle.status_report.specs.declared.Reply.{Reply}
use Rattle.status_report.specs.declared.Reply.TheVariants.{Banner}
use Rattle.step_line.specs.declared.Record.{Record}
use Rattle.step_record.specs.declared.forms.Line.{Line}
use Rattle.epoch_courses.specs.Told.{without_byes}
use Rattle.audit_rules.specs.Consoles.{IsOnConsole}
use Rattle.audit_rules.specs.Findings.{FitsWith}
use Rattle.audit_rules.specs.declared.Audit.{Audit}
use Rattle.audit_rules.specs.declared.Audit.TheVariants.{Fits, Foreign, TooLong}
use Rattle.audit_rules.specs.StepTexts.{IsStepText, records_of}

-- The source of a run has told its job, its sinks held nothing before, and no device failed.
pub record IsWholeRun (job : List ℕ) (job_was : SourceState) (was : Sinks) (end : RunEnd) : Type 0 where
  pub job_is : job_was.left ≡ Some job
  pub no_console : was.console.held ≡ Some []
  pub no_steps : was.steps.held ≡ Some []
  pub source : end.source_failed ≡ false
  pub console : end.console_failed ≡ false
  pub steps : end.steps_failed ≡ false

-- the steps hold a step text, whose lines have these records
pub record LeavesSteps (steps : SinkState) (records : List Record) : Type 0 where
  pub text : List ℕ
  pub held : steps.held ≡ Some text
  pub lines : List Line
  pub are : IsStepText text lines
  pub records_are : records_of lines ≡ records

-- The console holds the text of the banner and of the replies behind it, but Bye; each of these can stand on a console.
pub record LeavesConsole (console : SinkState) (replies : List Reply) : Type 0 where
  pub behind : List Reply
  pub held : console.held ≡ Some (replies_text (Banner ∷ behind))
  pub begins : without_byes replies ≡ Banner ∷ behind
  pub each : AllByRecursion IsOnConsole behind

-- The sinks hold a console and steps that fit with the job, as an audit means it, with so many events.
pub record LeavesTextsThatFit (job : List ℕ) (is : Sinks) : Type 0 where
  pub console : List ℕ
  pub steps : List ℕ
  pub console_held : is.console.held ≡ Some console
  pub steps_held : is.steps.held ≡ Some steps
  pub events : ℕ
  pub fit : FitsWith job console steps events

-- What an audit may find of texts that fit, with so many events: that they do; or that one is too long, or a line that is not audited.
abbrev pub MayFind : ℕ → Audit → Type 0
MayFind events (Fits n) = n ≡ events
MayFind events TooLong = Unit {0}
MayFind events (Foreign line) = Unit {0}
MayFind events a = ⊥
