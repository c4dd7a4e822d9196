-- What is answered if no fault rose.
use Rattle.std.proofs.Common.{◌≡◌, ◌↔◌, ℕ, ◌-◌, ◌<◌, ◌^◌, true, List, ap, refl, subst, arith, Some}
use Rattle.std.specs.declared.option.Option.{Option}
use Rattle.outside.specs.Causes.{Rose, SourceState, SinkState}
use Rattle.audit_rules.specs.Findings.{Finds, exit_of}
use Rattle.audit_rules.specs.declared.Audit.{Audit}
use Rattle.audit_rules.specs.declared.Audit.TheVariants.{Fits, Misfit, Usage, JobFault, ConsoleFault, StepsFault, OutFault, BadReplies, Foreign, TooLong}
use Rattle.audit_rules.proofs.Finding.{one_audit}
use Rattle.run_audit.proofs.NoneForeign.{none_foreign_of}
use Rattle.run_audit.specs.Auditing.{FitAuditably, IsAnswered, RightOf, TellsRightly, is_found}

not_risen : {A : Type 0} (before now : ℕ) → now ≡ before → before < 2 ^ 64 - 1 → Rose before now → A
not_risen before now same few rose = absurd (grind (arith, same, few, rose))

found_some : (a : Audit) → (a ≡ Usage → ⊥) → (a ≡ JobFault → ⊥) → (a ≡ ConsoleFault → ⊥) → (a ≡ StepsFault → ⊥) → (a ≡ OutFault → ⊥) → is_found a ≡ true
found_some (Fits n) u j c s o = refl
found_some (Misfit n) u j c s o = refl
found_some Usage u j c s o = absurd (u refl)
found_some JobFault u j c s o = absurd (j refl)
found_some ConsoleFault u j c s o = absurd (c refl)
found_some StepsFault u j c s o = absurd (s refl)
found_some OutFault u j c s o = absurd (o refl)
found_some (BadReplies n) u j c s o = refl
found_some (Foreign n) u j c s o = refl
found_some TooLong u j c s o = refl

right_of : (job console steps : List ℕ) (l m n : Option (List ℕ)) (a : Audit) → l ≡ Some job → m ≡ Some console → n ≡ Some steps → RightOf l m n a → TellsRightly job console steps a
right_of job console steps l m n a e f g right =
    subst (λ (o : Option (List ℕ)). RightOf (Some job) (Some console) o a) g
    (subst (λ (o : Option (List ℕ)). RightOf (Some job) o n a) f (subst (λ (o : Option (List ℕ)). RightOf o m n a) e right))

-- the status 0 is that of texts that fit, and of which that can be said
pub told_to_fit : (job console steps : List ℕ) (a : Audit) → TellsRightly job console steps a → exit_of a ≡ 0 → FitAuditably job console steps
told_to_fit job console steps (Fits n) right e = (let f = right.auditable n refl in (n, f.0, f.1))
told_to_fit job console steps (Misfit n) right e = absurd cc
told_to_fit job console steps Usage right e = absurd cc
told_to_fit job console steps JobFault right e = absurd cc
told_to_fit job console steps ConsoleFault right e = absurd cc
told_to_fit job console steps StepsFault right e = absurd cc
told_to_fit job console steps OutFault right e = absurd cc
told_to_fit job console steps (BadReplies n) right e = absurd cc
told_to_fit job console steps (Foreign n) right e = absurd cc
told_to_fit job console steps TooLong right e = absurd cc

-- and texts that fit, and of which that can be said, have that answer
fitting_told : (job console steps : List ℕ) (a : Audit) (fit : FitAuditably job console steps) → Finds job console steps a → a ≡ Fits fit.0
fitting_told job console steps a fit found = one_audit job console steps a (Fits fit.0) found (fit.2.short, λ h. none_foreign_of job console steps fit.0 fit.1 fit.2.audited h, fit.1)

pub tells : (job_text console_text steps_text : List ℕ) (job job_behind console console_behind steps steps_behind : SourceState) (out out_behind : SinkState) (a : Audit)
    → RightOf job.left console.left steps.left a → IsAnswered 3 job job_behind console console_behind steps steps_behind out out_behind a
    → job.left ≡ Some job_text → console.left ≡ Some console_text → steps.left ≡ Some steps_text
    → job_behind.faults ≡ job.faults → console_behind.faults ≡ console.faults → steps_behind.faults ≡ steps.faults → out_behind.faults ≡ out.faults
    → job.faults < 2 ^ 64 - 1 → console.faults < 2 ^ 64 - 1 → steps.faults < 2 ^ 64 - 1 → out.faults < 2 ^ 64 - 1
    → (exit_of a ≡ 0) ↔ FitAuditably job_text console_text steps_text
tells job_text console_text steps_text job job_behind console console_behind steps steps_behind out out_behind a right is l m n j c s o fj fc fs fo =
    let some = found_some a (λ e. is.usage.0 e refl) (λ e. not_risen job.faults job_behind.faults j fj (is.job_fault e)) (λ e. not_risen console.faults console_behind.faults c fc (is.console_fault e))
    (λ e. not_risen steps.faults steps_behind.faults s fs (is.steps_fault e)) (λ e. not_risen out.faults out_behind.faults o fo (is.out_fault e)) in
    let tells = right_of job_text console_text steps_text job.left console.left steps.left a l m n right in
    (told_to_fit job_text console_text steps_text a tells, λ fit. ap exit_of (fitting_told job_text console_text steps_text a fit (tells.found some)))
