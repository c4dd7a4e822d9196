use Rattle.std.proofs.Common.{refl}
use Rattle.run_audit.specs.declared.auditor.Auditor.{Auditor}
use Rattle.run_audit.proofs.Under.{reads_on, goes_on_by}
use Rattle.run_audit.proofs.LeadsOn.{task_leads}
use Rattle.run_audit.proofs.auditor.Auditor.work.Goals as goal

pub returns-in-Work-clause-goes_on : goal.returns-in-Work-clause-goes_on
returns-in-Work-clause-goes_on g c =
    let a = c.args.self.now in
    let b : Auditor = record a { course = c.work_on.new.self } in
    let job = g.J.Source.state c.args.job.now in
    let console = g.C.Source.state c.args.console.now in
    let steps = g.S.Source.state c.args.steps.now in
    reads_on a b job console steps job console steps (λ t told h. h) (λ t told h. h) (λ t told h. h) (λ none. (none, c.work_on.ensures.stays))

pub returns-in-Tell-clause-goes_on : goal.returns-in-Tell-clause-goes_on
returns-in-Tell-clause-goes_on g c = goes_on_by c.hear.result (λ found f. f (g.J.Source.state c.args.job.now) (g.S.Source.state c.args.steps.now)) c.hear.ensures.goes_on

pub returns-in-Work-clause-stands : goal.returns-in-Work-clause-stands
returns-in-Work-clause-stands g c = λ unowed jt ct st short u looked.
    let w = c.work_on.ensures in
    let some = c.in-Work.ensures.work refl in
    task_leads u c.work_on.new.self c.args.record looked unowed w.stays w.heard w.work some.0 some.1 w.number w.unanswered w.halting w.lost

pub returns-in-Tell-clause-stands : goal.returns-in-Tell-clause-stands
returns-in-Tell-clause-stands g c = λ unowed.
    goes_on_by c.hear.result (λ found h jt ct st short u looked. h (g.J.Source.state c.args.job.now) (g.S.Source.state c.args.steps.now) jt ct st short u tt) c.hear.ensures.stands

pub returns-in-Nothing-clause-stands : goal.returns-in-Nothing-clause-stands
returns-in-Nothing-clause-stands g c = λ unowed. c.next_item.ensures.stands unowed (c.in-Nothing.ensures.nothing refl)
