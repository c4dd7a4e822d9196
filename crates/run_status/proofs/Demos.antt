-- How a run of the generated job ends.
use Rattle.std.proofs.Common.{◌≡◌, ℕ, ◌+◌, Bool, true, false, cond, ap, sym, refl, ◌∙◌, subst}
use Rattle.outside.specs.Causes.{Rose, SinkState}
use Rattle.host_journal.specs.declared.Stop.TheVariants as stops
use Rattle.run_status.specs.declared.Status.{Status}
use Rattle.run_status.specs.declared.Status.TheVariants.{Done, LineErrors, Usage, SourceFault, ConsoleFault, StepsFault, LongLine, Alarm, TooLarge, OutOfMemory}
use Rattle.run_law.specs.declared.RunEnd.{RunEnd}
use Rattle.run_status.specs.Ends.{status_of, IsWhole, HasNotBegun, JobWasRun}
use Rattle.demo_job.specs.Jobs.{job_events, stop, summary, summary_of}
use Rattle.motion_pulse.specs.declared.pulse.Stepping.{Stepping}
use Rattle.run_status.specs.Demos.{IsDemo}

-- a job was run, a fault comes only where its device's count rose, and the demo is done only where no count did
pub record DemoCauses (console_was console_is steps_was steps_is : SinkState) (status : Status) : Type 0 where
  pub has_run : JobWasRun status
  pub console : status ≡ ConsoleFault → Rose console_was.faults console_is.faults
  pub steps : status ≡ StepsFault → Rose steps_was.faults steps_is.faults
  pub faultless : IsWhole status → (console_is.faults ≡ console_was.faults) × (steps_is.faults ≡ steps_was.faults)

by_faults : (n : ℕ) (stepping : Stepping) (console_was console_is steps_was steps_is : SinkState) (status : Status) (demo : IsDemo n stepping console_was console_is steps_was steps_is status) (sf cf : Bool)
    → demo.end.steps_failed ≡ sf → demo.console_failed ≡ cf
    → DemoCauses console_was console_is steps_was steps_is (cond sf StepsFault (cond cf ConsoleFault Done))
by_faults n stepping a b c d status demo true cf es ec = record { has_run = tt; console = λ e. absurd cc; steps = λ e. demo.run.recording.steps.cause es; faultless = λ w. absurd w }
by_faults n stepping a b c d status demo false true es ec = record { has_run = tt; console = λ e. demo.console.cause ec; steps = λ e. absurd cc; faultless = λ w. absurd w }
by_faults n stepping a b c d status demo false false es ec = record { has_run = tt; console = λ e. absurd cc; steps = λ e. absurd cc; faultless = λ w. (demo.console.same ec, demo.run.recording.steps.same es) }

pub demo_causes : (n : ℕ) (stepping : Stepping) (console_was console_is steps_was steps_is : SinkState) (status : Status) → IsDemo n stepping console_was console_is steps_was steps_is status
    → DemoCauses console_was console_is steps_was steps_is status
demo_causes n stepping a b c d status demo =
    subst (DemoCauses a b c d) (sym demo.status_is) (by_faults n stepping a b c d status demo demo.end.steps_failed demo.console_failed refl refl)

-- the status of a run whose job was read, sent to its end and accepted
pub well_ended : (end : RunEnd) (console_failed : Bool) → end.source_failed ≡ false → end.stop ≡ stops.End → end.errors ≡ 0
    → status_of (record end { console_failed = console_failed }) ≡ cond end.steps_failed StepsFault (cond console_failed ConsoleFault Done)
well_ended end console_failed read stop none = rw (read, stop, none) refl

-- the line on a run of which all lines are answered `ok`
pub told_whole : (n ok errors : ℕ) → ok ≡ n + 3 → errors ≡ 0 → summary_of n (n + 3) ok errors (job_events n) (stop n) ≡ summary n
told_whole n ok errors all none =
    ap (λ m. summary_of n (n + 3) m errors (job_events n) (stop n)) all ∙ ap (λ e. summary_of n (n + 3) (n + 3) e (job_events n) (stop n)) none

-- a run is no refusal
pub has_begun : {A : Type 0} (status : Status) → JobWasRun status → HasNotBegun status → A
has_begun Done run none = absurd none
has_begun (LineErrors n) run none = absurd none
has_begun Usage run none = absurd run
has_begun SourceFault run none = absurd none
has_begun ConsoleFault run none = absurd none
has_begun StepsFault run none = absurd none
has_begun (LongLine k) run none = absurd none
has_begun (Alarm k) run none = absurd none
has_begun TooLarge run none = absurd none
has_begun OutOfMemory run none = absurd run
