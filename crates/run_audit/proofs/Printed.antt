-- What is printed of an answer.
use Rattle.std.proofs.Common.{Bool, true, false, List, ℕ, ◌++◌, append-nil, sym, refl, ap, ◌∙◌, subst}
use Rattle.std.specs.Io.KnownBytes.{Appends}
use Rattle.outside.specs.Causes.{Rose, SinkState}
use Rattle.outside.specs.Writing.{Took}
use Rattle.audit_rules.specs.Findings.{audit_text}
use Rattle.audit_rules.specs.declared.Audit.{Audit}
use Rattle.run_audit.specs.Auditing.{PrintsFront}

pub some_printed : (before now : SinkState) (failed : Bool) (a : Audit) → Took before now failed (audit_text a) → PrintsFront before now
some_printed before now failed a t = record { of = a; front = t.front; back = t.back; whole = t.whole; held = t.held }

pub all_printed : (before now : SinkState) (failed : Bool) (a : Audit) → Took before now failed (audit_text a) → (Rose before.faults now.faults → ⊥) → Appends before.held now.held (audit_text a)
all_printed before now true a t calm = absurd (calm (t.cause refl))
all_printed before now false a t calm =
    subst (λ (bytes : List ℕ). Appends before.held now.held bytes) (sym (t.whole ∙ ap (λ (b : List ℕ). t.front ++ b) (t.all refl) ∙ append-nil t.front)) t.held
