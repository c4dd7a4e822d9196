-- What is found is told.
use Rattle.std.proofs.Common.{◌≡◌, ℕ, List, Some, None, Bool, true, false, refl, ap, ◌∙◌, subst}
use Rattle.std.specs.declared.option.Option.{Option}
use Rattle.audit_rules.specs.declared.Audit.{Audit}
use Rattle.audit_rules.specs.declared.Audit.TheVariants as audits
use Rattle.audit_rules.specs.Findings.{Finds, FitsWith}
use Rattle.run_audit.specs.Auditing.{IsAuditable, RightOf, TellsRightly, is_found}
use Rattle.run_audit.specs.Finding.{audit_of}
use Rattle.run_audit.specs.UnderWay.{IsSaid}
use Rattle.run_audit.specs.declared.auditor.Finding.{Finding}
use Rattle.run_audit.specs.declared.auditor.Finding.TheVariants as findings

differ : {A : Type 0} (b : Bool) → b ≡ true → b ≡ false → A
differ true e f = absurd cc
differ false e f = absurd cc

-- what speaks of no texts is none of what is found
not_found : {A : Type 0} (a b : Audit) → is_found a ≡ false → is_found b ≡ true → a ≡ b → A
not_found a b none some e = differ (is_found a) (ap is_found e ∙ some) none

pub nothing_told : (job console steps : List ℕ) (a : Audit) → is_found a ≡ false → TellsRightly job console steps a
nothing_told job console steps a none = record {
  found = λ some. differ (is_found a) some none;
  auditable = λ n e. not_found a (audits.Fits n) none refl e;
}

pub none_right : (job console steps : Option (List ℕ)) (a : Audit) → is_found a ≡ false → RightOf job console steps a
none_right None console steps a none = tt
none_right (Some job) None steps a none = tt
none_right (Some job) (Some console) None a none = tt
none_right (Some job) (Some console) (Some steps) a none = nothing_told job console steps a none

pub all_right : (job console steps : Option (List ℕ)) (a : Audit)
    → ((j c s : List ℕ) → job ≡ Some j → console ≡ Some c → steps ≡ Some s → TellsRightly j c s a) → RightOf job console steps a
all_right None console steps a f = tt
all_right (Some job) None steps a f = tt
all_right (Some job) (Some console) None a f = tt
all_right (Some job) (Some console) (Some steps) a f = f job console steps refl refl refl

pub told_rightly : (job console steps : List ℕ) (found : Finding) → IsSaid job console steps found → Finds job console steps (audit_of found) → TellsRightly job console steps (audit_of found)
told_rightly job console steps found said is = record { found = λ some. is; auditable = by found said } where
  by : (found : Finding) → IsSaid job console steps found → (m : ℕ) → audit_of found ≡ audits.Fits m → (f : FitsWith job console steps m) × IsAuditable job console steps m f
  by (findings.Fits n) r m e = (let same : n ≡ m = cc in subst (λ (k : ℕ). (f : FitsWith job console steps k) × IsAuditable job console steps k f) same (r.right.0.0, record { short = r.short; audited = r.right.0.1 }))
  by (findings.Misfit n) r m e = absurd cc
  by (findings.BadReplies n) r m e = absurd cc
  by (findings.Foreign n) r m e = absurd cc
  by findings.TooLong r m e = absurd cc
