use Rattle.std.specs.Prelude.{None}
use Rattle.std.proofs.Common.{IfOk, subst, sym}
use Rattle.run_audit.proofs.Under.{goes_then, goes_on_by}
use Rattle.run_audit.specs.Finding.{LeadsOnIf, Looks}
use Rattle.run_audit.specs.OnWay.{IsUnowed}
use Rattle.run_audit.specs.declared.auditor.Auditor.{Auditor}
use Rattle.run_audit.proofs.auditor.Auditor.step.Goals as goal

pub returns-then-takes_next-clause-goes_on : goal.returns-then-takes_next-clause-goes_on
returns-then-takes_next-clause-goes_on g c =
    let a = c.args.self.now in
    let job = g.J.Source.state c.args.job.now in
    let console = g.C.Source.state c.args.console.now in
    let before = g.S.Source.state c.args.steps.now in
    let after = g.S.Source.state c.look.new.steps in
    goes_then a c.look.new.self c.takes_next.new.self job console before job console after job console after None (c.in_ok-record.ensures.so_far job console) (c.takes_next.ensures.so_far job console after)

pub returns-clause-goes_on : goal.returns-clause-goes_on
returns-clause-goes_on g c =
    let a = c.args.self.now in
    let job = g.J.Source.state c.args.job.now in
    let console = g.C.Source.state c.args.console.now in
    let before = g.S.Source.state c.args.steps.now in
    let after = g.S.Source.state c.look.new.steps in
    let first = goes_then a c.look.new.self c.takes_next.new.self job console before job console after job console after None (c.in_ok-record.ensures.so_far job console) (c.takes_next.ensures.so_far job console after) in
    goes_on_by c.work.result (λ found. goes_then a c.takes_next.new.self c.work.new.self job console before job console after (g.J.Source.state c.work.new.job) (g.C.Source.state c.work.new.console) (g.S.Source.state c.work.new.steps) found first) c.work.ensures.goes_on

pub returns-then-takes_next-clause-stands : goal.returns-then-takes_next-clause-stands
returns-then-takes_next-clause-stands g c = λ jt ct st short u is n few.
    let job = g.J.Source.state c.args.job.now in
    let console = g.C.Source.state c.args.console.now in
    let v = c.in_ok-record.ensures.stands job console jt ct st short u n few in
    c.takes_next.ensures.stands c.if-takes_next.true job console (g.S.Source.state c.look.new.steps) jt ct st short v.0 v.1 n v.2

pub returns-clause-stands : goal.returns-clause-stands
returns-clause-stands g c = goes_on_by c.work.result (λ found on jt ct st short u is n few.
    let v = c.in_ok-record.ensures.stands (g.J.Source.state c.args.job.now) (g.C.Source.state c.args.console.now) jt ct st short u n few in
    on jt ct st short v.0 v.1 n v.2) (subst (λ (x : Auditor). IfOk c.work.result (λ found. LeadsOnIf (Looks x c.in_ok-record.record) x c.work.new.self (g.J.Source.state c.args.job.now) (g.C.Source.state c.args.console.now) (g.S.Source.state c.look.new.steps) (g.J.Source.state c.work.new.job) (g.C.Source.state c.work.new.console) (g.S.Source.state c.work.new.steps) found))
    (c.takes_next.ensures.same c.if-takes_next.false) (c.work.ensures.stands (subst (λ (x : Auditor). IsUnowed x.course c.in_ok-record.record) (sym (c.takes_next.ensures.same c.if-takes_next.false)) (c.takes_next.ensures.owes c.if-takes_next.false))))
