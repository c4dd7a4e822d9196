use Rattle.std.proofs.Common.{◌≡◌, rules}
use Rattle.audit_texts.proofs.JobRead.{foreign_found}
use Rattle.audit_texts.proofs.sending.Sending.foreign.Goals as goal

pub returns-clause-first : goal.returns-clause-first
returns-clause-first c = λ source text told j.
    let some : c.args.self.now.foreign ≡ 0 → ⊥ = search rules in
    foreign_found c.args.self.now source text told some j
