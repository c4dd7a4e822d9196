use Rattle.std.proofs.Common.{◌≡◌, ◌∙◌, ◌∷◌, ◌++◌, ◌-◌, [], ℕ, sym, subst, arith, rules}
use Rattle.audit_texts.specs.SoFar.{StepsSoFar}
use Rattle.audit_texts.proofs.StepsRead.{one_told}
use Rattle.audit_texts.proofs.recorded.Recorded.take.Goals as goal

pub returns-else-self-eq0-clause-told : goal.returns-else-self-eq0-clause-told
returns-else-self-eq0-clause-told c = λ r next source text told h.
    let old = c.args.self.now in
    let less = c.saturating_sub-self.ensures in
    let same : old.count - 1 ≡ c.saturating_sub-self.result = omega (arith, less) in
    let some : c.saturating_sub-self.result ≡ 0 → ⊥ = search rules in
    subst (λ (n : ℕ). StepsSoFar (record old { count = n }) source text (told ++ r ∷ [])) same (one_told old source text told r next (λ e. some (sym same ∙ e)) h)
