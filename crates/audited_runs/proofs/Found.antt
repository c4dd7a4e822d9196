-- Of texts that fit an audit finds no fault.
use Rattle.std.proofs.Common.{ℕ, List}
use Rattle.audit_rules.specs.Findings.{Finds, FitsWith}
use Rattle.audit_rules.specs.declared.Audit.{Audit}
use Rattle.audit_rules.specs.declared.Audit.TheVariants.{Fits, Misfit, Usage, JobFault, ConsoleFault, StepsFault, OutFault, BadReplies, Foreign, TooLong}
use Rattle.audit_rules.proofs.Finding.{one_audit, one_count}
use Rattle.audited_runs.specs.Left.{MayFind}

-- what is found of them is that they fit, but where one is too long or a line is not audited
pub no_fault : (job console steps : List ℕ) (events : ℕ) → FitsWith job console steps events → (a : Audit) → Finds job console steps a → MayFind events a
no_fault job console steps events fit (Fits n) found = one_count job console steps n events found.2 fit
no_fault job console steps events fit TooLong found = tt
no_fault job console steps events fit (Foreign line) found = tt
no_fault job console steps events fit (BadReplies line) found = let same = one_audit job console steps (BadReplies line) (Fits events) found (found.0, found.1, fit) in absurd cc
no_fault job console steps events fit (Misfit at) found = let same = one_audit job console steps (Misfit at) (Fits events) found (found.0, found.1, fit) in absurd cc
no_fault job console steps events fit Usage found = absurd found
no_fault job console steps events fit JobFault found = absurd found
no_fault job console steps events fit ConsoleFault found = absurd found
no_fault job console steps events fit StepsFault found = absurd found
no_fault job console steps events fit OutFault found = absurd found
