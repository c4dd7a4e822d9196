use Rattle.std.proofs.Common.{◌≡◌, ◌≤◌, List, ℕ, length, true}
use Rattle.outside.specs.Causes.{SourceState}
use Rattle.audit_texts.specs.Reading.{KnowsJob, IsSame}
use Rattle.audit_texts.specs.SoFar.{IsItem}
use Rattle.run_audit.specs.UnderWay.{CanBeRead, OthersStay}
use Rattle.audit_texts.specs.declared.sending.Item.TheVariants.{Nothing}
use Rattle.run_audit.proofs.auditor.Auditor.read_on.Given as goal

abbrev pub invariant-rest : goal.invariant-rest
invariant-rest g l = record {
  known : KnowsJob l.self.sending.reader (g.J.Source.state l.job);
  same : IsSame (g.J.Source.state l.fn.job) (g.J.Source.state l.job);
  others : OthersStay l.fn.self l.self;
  can_be_read : (console steps : SourceState) (job_text console_text steps_text : List ℕ) → CanBeRead l.fn.self (g.J.Source.state l.fn.job) console steps job_text console_text steps_text
      → CanBeRead l.self (g.J.Source.state l.job) console steps job_text console_text steps_text;
  grows : (console steps : SourceState) (job_text console_text steps_text : List ℕ) → CanBeRead l.fn.self (g.J.Source.state l.fn.job) console steps job_text console_text steps_text
      → (r : CanBeRead l.self (g.J.Source.state l.job) console steps job_text console_text steps_text) × (l.counter ≤ length r.sent);
  over : l.fn.self.sending.over ≡ true → IsItem Nothing l.fn.self.sending → l.self.sending ≡ l.fn.self.sending;
}
