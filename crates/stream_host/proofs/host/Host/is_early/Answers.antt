use Rattle.std.proofs.Common.{refl, sym, ◌∙◌}
use Rattle.stream_host.proofs.Hosting.{early_by}
use Rattle.stream_host.proofs.host.Host.is_early.Goals as goal

pub returns-then-self : goal.returns-then-self
returns-then-self c = λ room h f. ((λ none alone waits. absurd (let e = sym c.if-self.true ∙ f.attended_is ∙ alone in cc)), (λ after. refl))

pub returns-then-waits_for_lines : goal.returns-then-waits_for_lines
returns-then-waits_for_lines c = λ room h f. early_by c.args.self.now c.args.byte h _ f c.if-self.false (sym c.waits_for_lines.ensures ∙ c.if-waits_for_lines.true) refl
