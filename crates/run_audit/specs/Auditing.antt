-- What an audit of three texts answers and prints.
use Rattle.std.specs.Prelude.{◌≡◌, ◌≢◌, ◌↔◌, ℕ, Bool, true, false, List, ◌++◌, Some, None}
use Rattle.std.specs.declared.option.Option.{Option}
use Rattle.std.specs.Io.KnownBytes.{Appends}
use Rattle.outside.specs.Causes.{Rose, SourceState, SinkState}
use Rattle.audit_rules.specs.Findings.{Finds, FitsWith, IsTooLong, audit_text}
use Rattle.audit_rules.specs.declared.Audit.{Audit}
use Rattle.audit_rules.specs.declared.Audit.TheVariants.{Fits, Misfit, Usage, JobFault, ConsoleFault, StepsFault, OutFault, BadReplies, Foreign, TooLong}
use Rattle.audit_texts.specs.Audited.{AllAudited}

-- the answer speaks of the texts
abbrev pub is_found : Audit → Bool
is_found (Fits events) = true
is_found (Misfit at) = true
is_found Usage = false
is_found JobFault = false
is_found ConsoleFault = false
is_found StepsFault = false
is_found OutFault = false
is_found (BadReplies line) = true
is_found (Foreign line) = true
is_found TooLong = true

-- a front of some answer's line was printed
pub record PrintsFront (before now : SinkState) : Type 0 where
  pub of : Audit
  pub front : List ℕ
  pub back : List ℕ
  pub whole : audit_text of ≡ front ++ back
  pub held : Appends before.held now.held front

-- Texts that fit, and of which an audit can say so: neither is too long, and each line that is sent is audited.
pub record IsAuditable (job console steps : List ℕ) (events : ℕ) (f : FitsWith job console steps events) : Type 0 where
  pub short : IsTooLong console steps → ⊥
  pub audited : AllAudited f.fit.sent

-- texts that fit, and of which an audit can say so
abbrev pub FitAuditably : List ℕ → List ℕ → List ℕ → Type 0
FitAuditably job console steps = (events : ℕ) × (f : FitsWith job console steps events) × IsAuditable job console steps events f

-- An answer to texts that are read whole is right: what it says of them is found of them, with its number; and if it says that they
-- fit, neither is too long and each line that is sent is audited.
pub record TellsRightly (job console steps : List ℕ) (a : Audit) : Type 0 where
  pub found : is_found a ≡ true → Finds job console steps a
  pub auditable : (events : ℕ) → a ≡ Fits events → (f : FitsWith job console steps events) × IsAuditable job console steps events f

-- It speaks of what the sources had left, if they tell it.
abbrev pub RightOf : Option (List ℕ) → Option (List ℕ) → Option (List ℕ) → Audit → Type 0
RightOf (Some job) (Some console) (Some steps) a = TellsRightly job console steps a
RightOf (Some job) (Some console) None a = Unit {0}
RightOf (Some job) None steps a = Unit {0}
RightOf None console steps a = Unit {0}

-- An answer to three texts: what was found of them, or the fault of one of which the count of faults rose.
pub record IsOfTexts (job job_behind console console_behind steps steps_behind : SourceState) (a : Audit) : Type 0 where
  pub usage : a ≡ Usage → ⊥
  pub out_fault : a ≡ OutFault → ⊥
  pub job_fault : a ≡ JobFault → Rose job.faults job_behind.faults
  pub console_fault : a ≡ ConsoleFault → Rose console.faults console_behind.faults
  pub steps_fault : a ≡ StepsFault → Rose steps.faults steps_behind.faults

-- The answer to so many words, by what the three sources and the output were before and are after it, whatever is found. Not three
-- words are wrong usage; a fault is answered only if the count of its object rose. The line of the answer is printed, or a front of a
-- line if the output failed.
pub record IsAnswered (words : ℕ) (job job_behind console console_behind steps steps_behind : SourceState) (out out_behind : SinkState) (a : Audit) : Type 0 where
  pub usage : (a ≡ Usage) ↔ (words ≢ 3)
  pub job_fault : a ≡ JobFault → Rose job.faults job_behind.faults
  pub console_fault : a ≡ ConsoleFault → Rose console.faults console_behind.faults
  pub steps_fault : a ≡ StepsFault → Rose steps.faults steps_behind.faults
  pub out_fault : a ≡ OutFault → Rose out.faults out_behind.faults
  pub printed : (Rose out.faults out_behind.faults → ⊥) → Appends out.held out_behind.held (audit_text a)
  pub front : PrintsFront out out_behind
