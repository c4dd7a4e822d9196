use Rattle.std.proofs.Common.{◌≡◌, ℕ, List, [], length, map}
use Rattle.outside.specs.Causes.{SourceState}
use Rattle.run_texts.specs.Sent.Sent.{a_text}
use Rattle.audit_texts.specs.Reading.{KnowsJob, IsSame}
use Rattle.run_audit.specs.UnderWay.{IsUnderWay, IsDropping, OthersStay}
use Rattle.run_audit.proofs.ResetSteps.{ReadsLines}
use Rattle.run_audit.proofs.auditor.Auditor.drop_lines.Given as goal

abbrev pub invariant-lines : goal.invariant-lines
invariant-lines g l = record {
  known : KnowsJob l.self.sending.reader (g.J.Source.state l.job);
  same : IsSame (g.J.Source.state l.fn.job) (g.J.Source.state l.job);
  others : OthersStay l.fn.self l.self;
  answered : l.self.answered ≡ l.fn.self.answered;
  few : l.dropped ≡ l.counter;
  reads : ReadsLines l.fn.self.sending l.self.sending (g.J.Source.state l.fn.job) (g.J.Source.state l.job) l.dropped [];
  dropping : (console steps : SourceState) (job_text console_text steps_text : List ℕ) → IsUnderWay l.fn.self (g.J.Source.state l.fn.job) console steps job_text console_text steps_text
      → (lines : List (List ℕ)) × (l.dropped ≡ length lines) × IsDropping l.self (g.J.Source.state l.job) console steps job_text console_text steps_text (map a_text lines);
}
