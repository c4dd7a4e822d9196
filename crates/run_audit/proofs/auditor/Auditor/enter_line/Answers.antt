use Rattle.std.proofs.Common.{◌≡◌, false, Bool, List, append-nil, arith, not, ◌&&◌, ◌∙◌, ap, sym, subst}
use Rattle.run_audit.specs.declared.auditor.Auditor.{Auditor}
use Rattle.audit_texts.proofs.StepsRead.{read_to}
use Rattle.run_audit.proofs.Under.{reads_on, goes_then, goes_on_by, bad_found, can_be_read, read_console, finish_on}
use Rattle.audit_texts.specs.SoFar.{IsItem}
use Rattle.audit_texts.specs.declared.sending.Item.{Item}
use Rattle.run_texts.specs.Sent.{Sent}
use Rattle.audit_texts.specs.SoFar.{IsAllRead, JobSoFar}
use Rattle.run_audit.specs.Finding.{IsFound}
use Rattle.run_audit.specs.declared.auditor.Finding.{Finding}
use Rattle.run_audit.proofs.Bounded.{answered_on_way, number_on_way}
use Rattle.run_audit.proofs.Entered.{goes_on_given, stop_found}
use Rattle.run_audit.proofs.ReadOn.{read_on_way}
use Rattle.run_audit.proofs.LineBegun.{none_waits}
use Rattle.run_audit.proofs.auditor.Auditor.enter_line.Goals as goal

pub returns-in-Ok-Stop-clause-goes_on : goal.returns-in-Ok-Stop-clause-goes_on
returns-in-Ok-Stop-clause-goes_on g c =
    let a = c.args.self.now in
    let before = g.J.Source.state c.args.job.now in
    let after = g.J.Source.state c.look.new.source in
    let console = g.C.Source.state c.args.console.now in
    let steps = g.S.Source.state c.args.steps.now in
    let b : Auditor = record a { sending = c.look.new.self } in
    bad_found a b before console steps after console steps c.bad_behind.result c.bad_behind.ensures.bad
    (can_be_read a b before console steps after console steps c.in-Ok-Stop.ensures.so_far (λ t told h. read_console a.listening console t told h) (λ t told h. read_to a.recorded steps t told h))

pub returns-in-Ok-Line-clause-goes_on : goal.returns-in-Ok-Line-clause-goes_on
returns-in-Ok-Line-clause-goes_on g c =
    let a = c.args.self.now in
    let b : Auditor = record a { sending = c.look.new.self } in
    let before = g.J.Source.state c.args.job.now in
    let after = g.J.Source.state c.look.new.source in
    let console = g.C.Source.state c.args.console.now in
    let steps = g.S.Source.state c.args.steps.now in
    goes_then a b c.begin.new.self before console steps after console steps after console steps c.begin.result
    (reads_on a b before console steps after console steps c.in-Ok-Line.ensures.so_far (λ t told h. h) (λ t told h. h) (λ none. (none, λ f ss rs xs h. h)))
    (c.begin.ensures.goes_on after console steps)

pub returns-in-Ok-Nothing-clause-goes_on : goal.returns-in-Ok-Nothing-clause-goes_on
returns-in-Ok-Nothing-clause-goes_on g c =
    let a = c.args.self.now in
    let b : Auditor = record a { sending = c.look.new.self } in
    let before = g.J.Source.state c.args.job.now in
    let after = g.J.Source.state c.look.new.source in
    let console = g.C.Source.state c.args.console.now in
    let steps = g.S.Source.state c.args.steps.now in
    let first = reads_on a b before console steps after console steps c.in-Ok-Nothing.ensures.so_far (λ t told h. h) (λ t told h. h) (λ none. (none, λ f ss rs xs h. h)) in
    goes_on_by c.finish.result (λ found f. finish_on a b c.finish.new.self before console steps after console steps (g.C.Source.state c.finish.new.console) (g.S.Source.state c.finish.new.steps) found
    first (f after)) c.finish.ensures.found

pub returns-in-Ok-Stop-clause-stands : goal.returns-in-Ok-Stop-clause-stands
returns-in-Ok-Stop-clause-stands g c = λ later calm none fits jt ct st short u p n few.
    let a = c.args.self.now in
    let look = c.in-Ok-Stop.ensures in
    let b : Auditor = record a { sending = c.look.new.self } in
    let before = answered_on_way u in
    let number = number_on_way u in
    let line = c.bad_behind.ensures.line (omega (arith, before, number)) in
    subst (λ (x : Finding). IsFound b jt ct st x) (sym line)
    (stop_found u short c.args.record p.0 later calm none p.1 c.look.new.self (g.J.Source.state c.look.new.source) (look.so_far jt u.sent u.are_read.job_so_far) look.last (subst (λ (x : Item). IsItem x c.look.new.self) c.in-Ok-Stop.field-0-is look.item))

pub returns-in-Ok-Line-clause-stands : goal.returns-in-Ok-Line-clause-stands
returns-in-Ok-Line-clause-stands g c = λ later calm none fits jt ct st short u p n few.
    let look = c.in-Ok-Line.ensures in
    let after = g.J.Source.state c.look.new.source in
    c.begin.ensures.stands c.args.record later calm none fits after (g.C.Source.state c.args.console.now) (g.S.Source.state c.args.steps.now) jt ct st short
    (read_on_way u later.done calm c.look.new.self after (look.so_far jt u.sent u.are_read.job_so_far) look.last) p n few

pub returns-in-Ok-Nothing-clause-stands : goal.returns-in-Ok-Nothing-clause-stands
returns-in-Ok-Nothing-clause-stands g c = λ later calm none fits.
    let a = c.args.self.now in
    let look = c.in-Ok-Nothing.ensures in
    let before = g.J.Source.state c.args.job.now in
    let after = g.J.Source.state c.look.new.source in
    let item = subst (λ (x : Item). IsItem x c.look.new.self) c.in-Ok-Nothing.field-0-is look.item in
    let over = look.over c.in-Ok-Nothing.field-0-is in
    goes_on_given {Q = (a.course.unanswered ≡ false) × IsAllRead c.look.new.self a.course.line.halts a.course.work.number} c.finish.result (λ given. c.finish.ensures.stands later given.0 given.1)
    (λ found ends jt ct st short u p n few.
    let answered = none_waits u later.done none p.1 in
    let halts = ap (λ (b : Bool). not b && a.course.line.halts) (sym answered) ∙ calm in
    let all = subst (λ (b : Bool). IsAllRead c.look.new.self b a.course.work.number) (sym halts) (look.last ∙ u.calm, over, item.0, item.1) in
    ends (answered, all) after a.sending before jt ct st short u (subst (λ (ss : List Sent). JobSoFar c.look.new.self after jt ss) (sym (append-nil u.sent)) (look.so_far jt u.sent u.are_read.job_so_far)) p.0 n few)
