use Rattle.std.proofs.Common.{◌≡◌, None, subst, arith}
use Rattle.std.specs.declared.option.Option.{Option}
use Rattle.step_line.specs.declared.Record.{Record}
use Rattle.audit_texts.specs.SoFar.{StandsNow}
use Rattle.run_audit.specs.declared.auditor.Auditor.{Auditor}
use Rattle.run_audit.proofs.NextOnWay.{finds_next, finds_none}
use Rattle.run_audit.proofs.Under.{reads_on, broken_by, goes_then}
use Rattle.run_audit.proofs.auditor.Auditor.look.Goals as goal

pub returns-then-is_some-clause-so_far : goal.returns-then-is_some-clause-so_far
returns-then-is_some-clause-so_far g c = λ job console jt ct st u. u

pub returns-in-Ok-Some-clause-so_far : goal.returns-in-Ok-Some-clause-so_far
returns-in-Ok-Some-clause-so_far g c = λ job console.
    let a = c.args.self.now in
    let b : Auditor = record a { recorded = c.look.new.self } in
    let before = g.S.Source.state c.args.steps.now in
    let after = g.S.Source.state c.look.new.source in
    reads_on a b job console before job console after (λ t told h. h) (λ t told h. h) c.in-Ok-Some.ensures.so_far (λ none. (none, λ f ss rs xs h. h))

pub returns-in-Ok-None-clause-so_far : goal.returns-in-Ok-None-clause-so_far
returns-in-Ok-None-clause-so_far g c = λ job console.
    let a = c.args.self.now in
    let b : Auditor = record a { recorded = c.look.new.self } in
    let before = g.S.Source.state c.args.steps.now in
    let after = g.S.Source.state c.look.new.source in
    goes_then a b c.break_off.new.self job console before job console after job console after None
    (reads_on a b job console before job console after (λ t told h. h) (λ t told h. h) c.in-Ok-None.ensures.so_far (λ none. (none, λ f ss rs xs h. h)))
    (broken_by b c.break_off.new.self job console after c.break_off.ensures.sending c.break_off.ensures.listening c.break_off.ensures.recorded c.break_off.ensures.broken)

pub returns-then-is_some-clause-stands : goal.returns-then-is_some-clause-stands
returns-then-is_some-clause-stands g c = λ job console jt ct st short u n few. (u, (λ none. let some = c.is_some.ensures in let yes = c.if-is_some.true in grind (arith, none, some, yes)), few)

pub returns-in-Ok-Some-clause-stands : goal.returns-in-Ok-Some-clause-stands
returns-in-Ok-Some-clause-stands g c =
    let a = c.args.self.now in
    let none : a.broken ≡ None = (let some = c.is_some.ensures in let no = c.if-is_some.false in grind (arith, some, no)) in
    finds_next c.in-Ok-Some.record none c.in-Ok-Some.ensures.so_far
    (subst (λ (o : Option Record). StandsNow o a.recorded c.look.new.self (g.S.Source.state c.args.steps.now)) c.in-Ok-Some.field-0-is c.in-Ok-Some.ensures.stands)

pub returns-in-Ok-None-clause-stands : goal.returns-in-Ok-None-clause-stands
returns-in-Ok-None-clause-stands g c =
    let a = c.args.self.now in
    let b = c.break_off in
    let none : a.broken ≡ None = (let some = c.is_some.ensures in let no = c.if-is_some.false in grind (arith, some, no)) in
    finds_none none c.in-Ok-None.ensures.so_far
    (subst (λ (o : Option Record). StandsNow o a.recorded c.look.new.self (g.S.Source.state c.args.steps.now)) c.in-Ok-None.field-0-is c.in-Ok-None.ensures.stands)
    (record { sending = b.ensures.sending; listening = b.ensures.listening; recorded = b.ensures.recorded; course = b.ensures.others.0; answered = b.ensures.others.1; broken = b.ensures.at none })
