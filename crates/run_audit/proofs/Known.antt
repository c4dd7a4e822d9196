-- What is known of texts behind a call.
use Rattle.std.proofs.Common.{ℕ, ◌∙◌, subst}
use Rattle.outside.specs.Causes.{Rose, SourceState}
use Rattle.run_audit.specs.Going.{AllSame, IsCaused}
use Rattle.audit_texts.specs.Reading.{IsSame}
use Rattle.run_audit.specs.declared.auditor.Unread.{Unread}
use Rattle.run_audit.specs.declared.auditor.Unread.TheVariants.{Job, Console, Steps}

pub rose_on : (a b c : SourceState) → IsSame a b → Rose b.faults c.faults → Rose a.faults c.faults
rose_on a b c same rose = subst (λ (n : ℕ). Rose n c.faults) same rose

pub all_same_on : (j c s k d t l e u : SourceState) → AllSame j c s k d t → AllSame k d t l e u → AllSame j c s l e u
all_same_on j c s k d t l e u a b = record { job_same = b.job_same ∙ a.job_same; console_same = b.console_same ∙ a.console_same; steps_same = b.steps_same ∙ a.steps_same }

pub caused_on : (x : Unread) (j c s k d t l e u : SourceState) → AllSame j c s k d t → IsCaused x k d t l e u → IsCaused x j c s l e u
caused_on Job j c s k d t l e u same rose = rose_on j k l same.job_same rose
caused_on Console j c s k d t l e u same rose = rose_on c d e same.console_same rose
caused_on Steps j c s k d t l e u same rose = rose_on s t u same.steps_same rose
