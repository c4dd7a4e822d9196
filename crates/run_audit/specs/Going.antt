-- How an audit goes on over three texts.
use Rattle.outside.specs.Causes.{Rose, SourceState}
use Rattle.audit_texts.specs.Reading.{KnowsJob, KnowsConsole, KnowsSteps, IsSame}
use Rattle.run_audit.specs.declared.auditor.Auditor.{Auditor}
use Rattle.run_audit.specs.declared.auditor.Unread.{Unread}
use Rattle.run_audit.specs.declared.auditor.Unread.TheVariants.{Job, Console, Steps}

-- each text is read on from where it was left
pub record AllKnown (a : Auditor) (job console steps : SourceState) : Type 0 where
  pub job_known : KnowsJob a.sending.reader job
  pub console_known : KnowsConsole a.listening.reader console
  pub steps_known : KnowsSteps a.recorded.reader steps

-- no call has failed
pub record AllSame (job console steps job_now console_now steps_now : SourceState) : Type 0 where
  pub job_same : IsSame job job_now
  pub console_same : IsSame console console_now
  pub steps_same : IsSame steps steps_now

-- a text could not be read, and the count of its faults rose
abbrev pub IsCaused : Unread → SourceState → SourceState → SourceState → SourceState → SourceState → SourceState → Type 0
IsCaused Job job console steps job_now console_now steps_now = Rose job.faults job_now.faults
IsCaused Console job console steps job_now console_now steps_now = Rose console.faults console_now.faults
IsCaused Steps job console steps job_now console_now steps_now = Rose steps.faults steps_now.faults

-- the same of the console and the steps alone
abbrev pub EndFails : Unread → SourceState → SourceState → SourceState → SourceState → Type 0
EndFails Job console steps console_now steps_now = ⊥
EndFails Console console steps console_now steps_now = Rose console.faults console_now.faults
EndFails Steps console steps console_now steps_now = Rose steps.faults steps_now.faults
