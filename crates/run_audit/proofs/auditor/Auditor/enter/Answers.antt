use Rattle.std.proofs.Common.{◌∙◌, sym}
use Rattle.run_audit.specs.declared.auditor.Auditor.{Auditor}
use Rattle.run_audit.proofs.Under.{reads_on, goes_then, goes_on_by}
use Rattle.run_audit.proofs.Entered.{line_entered, reset_entered}
use Rattle.run_audit.proofs.auditor.Auditor.enter.Goals as goal

pub returns-clause-goes_on : goal.returns-clause-goes_on
returns-clause-goes_on g c =
    let a = c.args.self.now in
    let b : Auditor = record a { listening = c.look.new.self } in
    let job = g.J.Source.state c.args.job.now in
    let before = g.C.Source.state c.args.console.now in
    let after = g.C.Source.state c.look.new.source in
    let steps = g.S.Source.state c.args.steps.now in
    let first = reads_on a b job before steps job after steps (λ t told h. h) c.in-Ok.ensures.so_far (λ t told h. h) (λ none. (none, λ f ss rs xs h. h)) in
    goes_on_by c.enter_line.result (λ found. goes_then a b c.enter_line.new.self job before steps job after steps (g.J.Source.state c.enter_line.new.job) (g.C.Source.state c.enter_line.new.console) (g.S.Source.state c.enter_line.new.steps) found first) c.enter_line.ensures.goes_on

pub returns-then-tells_reset-clause-goes_on : goal.returns-then-tells_reset-clause-goes_on
returns-then-tells_reset-clause-goes_on g c =
    let a = c.args.self.now in
    let b : Auditor = record a { listening = c.look.new.self } in
    let job = g.J.Source.state c.args.job.now in
    let before = g.C.Source.state c.args.console.now in
    let after = g.C.Source.state c.look.new.source in
    let steps = g.S.Source.state c.args.steps.now in
    let first = reads_on a b job before steps job after steps (λ t told h. h) c.in-Ok.ensures.so_far (λ t told h. h) (λ none. (none, λ f ss rs xs h. h)) in
    goes_on_by c.reset.result (λ found f. goes_then a b c.reset.new.self job before steps job after steps (g.J.Source.state c.reset.new.job) after steps found first (f after steps)) c.reset.ensures.goes_on

pub returns-then-has_alarm-clause-stands : goal.returns-then-has_alarm-clause-stands
returns-then-has_alarm-clause-stands g c = λ later. c.end_by_alarm.ensures.stands later (sym c.has_alarm.ensures ∙ c.if-has_alarm.true)

pub returns-then-tells_reset-clause-stands : goal.returns-then-tells_reset-clause-stands
returns-then-tells_reset-clause-stands g c = λ later.
    let look = c.in-Ok.ensures in
    let job = g.J.Source.state c.args.job.now in
    let before = g.C.Source.state c.args.console.now in
    let after = g.C.Source.state c.look.new.source in
    let steps = g.S.Source.state c.args.steps.now in
    let calm = sym c.has_alarm.ensures ∙ c.if-has_alarm.false in
    reset_entered c.args.self.now c.reset.new.self c.look.new.self job before after steps (g.J.Source.state c.reset.new.job) c.args.record c.reset.result look.so_far look.next look.stands
    (c.tells_reset.ensures.yes c.if-tells_reset.true) (c.reset.ensures.stands later calm)

pub returns-clause-stands : goal.returns-clause-stands
returns-clause-stands g c = λ later.
    let look = c.in-Ok.ensures in
    let job = g.J.Source.state c.args.job.now in
    let before = g.C.Source.state c.args.console.now in
    let after = g.C.Source.state c.look.new.source in
    let steps = g.S.Source.state c.args.steps.now in
    let calm = sym c.has_alarm.ensures ∙ c.if-has_alarm.false in
    line_entered c.args.self.now c.enter_line.new.self c.look.new.self job before after steps (g.J.Source.state c.enter_line.new.job) c.args.record c.enter_line.result look.so_far look.next look.stands
    (g.C.Source.state c.enter_line.new.console) (g.S.Source.state c.enter_line.new.steps) c.error_of.result (c.tells_reset.ensures.no c.if-tells_reset.false) c.error_of.ensures (c.enter_line.ensures.stands later calm)
