use Rattle.std.proofs.Common.{◌≤◌, ◌+◌, List, ℕ, length}
use Rattle.audit_rules.specs.Findings.{IsTooLong}
use Rattle.run_audit.specs.Going.{AllKnown, AllSame}
use Rattle.run_audit.specs.OnWay.{IsOnWay, done_by}
use Rattle.run_audit.specs.UnderWay.{IsOpened, IsUnderWay}
use Rattle.run_audit.proofs.auditor.Auditor.run.Given as goal

abbrev pub invariant-texts : goal.invariant-texts
invariant-texts g l = record {
  known : AllKnown l.self (g.J.Source.state l.job) (g.C.Source.state l.console) (g.S.Source.state l.steps);
  same : AllSame (g.J.Source.state l.fn.job) (g.C.Source.state l.fn.console) (g.S.Source.state l.fn.steps) (g.J.Source.state l.job) (g.C.Source.state l.console) (g.S.Source.state l.steps);
  under_way : (job_text console_text steps_text : List ℕ) → IsOpened l.fn.self (g.J.Source.state l.fn.job) (g.C.Source.state l.fn.console) (g.S.Source.state l.fn.steps) job_text console_text steps_text
      → IsUnderWay l.self (g.J.Source.state l.job) (g.C.Source.state l.console) (g.S.Source.state l.steps) job_text console_text steps_text;
  on_way : (job_text console_text steps_text : List ℕ) → IsOpened l.fn.self (g.J.Source.state l.fn.job) (g.C.Source.state l.fn.console) (g.S.Source.state l.fn.steps) job_text console_text steps_text
      → (IsTooLong console_text steps_text → ⊥)
      → (u : IsOnWay l.self (g.J.Source.state l.job) (g.C.Source.state l.console) (g.S.Source.state l.steps) job_text console_text steps_text) × (l.counter + length l.self.course.work.left ≤ done_by l.self u.sent u.records);
}
