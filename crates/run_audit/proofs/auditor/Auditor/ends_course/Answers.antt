use Rattle.std.proofs.Common.{◌≤◌, ℕ, Bool, subst, sym}
use Rattle.audit_texts.specs.SoFar.{IsAllRead}
use Rattle.run_audit.proofs.auditor.Auditor.ends_course.Goals as goal

pub returns-then-end-clause-ends : goal.returns-then-end-clause-ends
returns-then-end-clause-ends c = λ yes. record {
  ends = c.end.ensures.yes c.if-end.true;
  told = c.may_fit.ensures.told yes;
  few = c.may_fit.ensures.few yes;
  audited = c.may_fit.ensures.audited yes;
}

pub returns-then-end-clause-no : goal.returns-then-end-clause-no
returns-then-end-clause-no c = λ none done answered all audited few.
    let a = c.args.self.now in
    let k = c.end.new.self in
    let stays = c.end.ensures in
    absurd (c.may_fit.ensures.no none
    (subst (λ (h : Bool). IsAllRead a.sending h k.work.number) (sym stays.halts) (subst (λ (n : ℕ). IsAllRead a.sending a.course.line.halts n) (sym stays.number) all)) audited
    (subst (λ (n : ℕ). n ≤ a.sending.cuts) (sym stays.cuts) few))

pub returns-else-end-clause-no : goal.returns-else-end-clause-no
returns-else-end-clause-no c = λ none done answered all audited few. c.end.ensures.no c.if-end.false done answered
