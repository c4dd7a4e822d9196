use Rattle.std.proofs.Common.{List, append-nil, inl, refl, sym, subst, Bool, arith}
use Rattle.run_texts.specs.Sent.{Sent}
use Rattle.audit_texts.specs.SoFar.{EndsConsole, JobSoFar}
use Rattle.run_audit.specs.Finding.{IsFound}
use Rattle.run_audit.specs.declared.auditor.Auditor.{Auditor}
use Rattle.run_audit.specs.declared.auditor.Finding.{Finding}
use Rattle.run_audit.proofs.Bounded.{answered_on_way, number_on_way}
use Rattle.run_audit.proofs.EndFound.{behind_all, console_at_end}
use Rattle.run_audit.proofs.Under.{bad_end, ended_read, whole_end, goes_on_by}
use Rattle.run_audit.proofs.auditor.Auditor.finish.Goals as goal

pub returns-in-Ok-false-clause-found : goal.returns-in-Ok-false-clause-found
returns-in-Ok-false-clause-found g c = λ job.
    let a = c.args.self.now in
    let here = g.S.Source.state c.args.steps.now in
    let before = g.C.Source.state c.args.console.now in
    let after = g.C.Source.state c.ends.new.source in
    let b : Auditor = record a { listening = c.ends.new.self } in
    bad_end a b job before here after here c.bad_behind.result c.bad_behind.ensures.bad (ended_read a b job before here after here refl c.in-Ok-false.ensures.read refl refl)

pub returns-in-Ok-true-clause-found : goal.returns-in-Ok-true-clause-found
returns-in-Ok-true-clause-found g c =
    let a = c.args.self.now in
    let here = g.S.Source.state c.args.steps.now in
    let there = g.S.Source.state c.finish_steps.new.steps in
    let before = g.C.Source.state c.args.console.now in
    let after = g.C.Source.state c.ends.new.source in
    goes_on_by c.finish_steps.result (λ found f job. whole_end a c.finish_steps.new.self c.ends.new.self job before here after there found
    (subst (λ (y : Bool). EndsConsole y a.listening before) c.in-Ok-true.field-0-test c.in-Ok-true.ensures.ends) c.in-Ok-true.ensures.read f) c.finish_steps.ensures.found

pub returns-in-Ok-false-clause-stands : goal.returns-in-Ok-false-clause-stands
returns-in-Ok-false-clause-stands g c = λ later answered all job earlier before jt ct st short u read looked n few.
    let a = c.args.self.now in
    let at = c.in-Ok-false.ensures.stands ct u.replies u.are_read.console_so_far (λ long. short (inl long)) in
    let b : Auditor = record a { listening = c.ends.new.self } in
    let early = answered_on_way u in
    let number = number_on_way u in
    subst (λ (found : Finding). IsFound b jt ct st found) (sym (c.bad_behind.ensures.line (omega (arith, early, number))))
    (behind_all u c.args.record looked later answered a.sending job (subst (λ (ss : List Sent). JobSoFar a.sending job jt ss) (append-nil u.sent) read) all at.0 at.1 (at.2 c.in-Ok-false.field-0-test) b
    (record { cuts = refl; number = refl; left = refl; halts = refl; answered = refl }) refl)

pub returns-in-Ok-true-clause-stands : goal.returns-in-Ok-true-clause-stands
returns-in-Ok-true-clause-stands g c = λ later answered all.
    let a = c.args.self.now in
    let before = g.C.Source.state c.args.console.now in
    goes_on_by c.finish_steps.result (λ found e job. console_at_end a c.finish_steps.new.self c.ends.new.self c.args.record job before (g.S.Source.state c.args.steps.now) (g.C.Source.state c.ends.new.source) (g.S.Source.state c.finish_steps.new.steps) found
    (subst (λ (y : Bool). EndsConsole y a.listening before) c.in-Ok-true.field-0-test c.in-Ok-true.ensures.ends) e) (c.finish_steps.ensures.stands later answered all)
