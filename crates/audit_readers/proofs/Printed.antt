-- A printed line.
use Rattle.std.proofs.Common.{◌≡◌, ℕ, ◌++◌, codes, decimal, sym, append_assoc}
use Rattle.audit_rules.specs.Findings.{audit_text}
use Rattle.audit_rules.specs.declared.Audit.TheVariants.{Foreign}

pub foreign_line : (n : ℕ) → codes "line " ++ decimal n ++ codes " isn't audited\n" ≡ audit_text (Foreign n)
foreign_line n = sym (append_assoc (codes "line " ++ decimal n) (codes " isn't audited") (codes "\n"))
