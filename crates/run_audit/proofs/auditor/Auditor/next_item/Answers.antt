use Rattle.run_audit.proofs.Under.{broken_by}
use Rattle.std.proofs.Common.{◌≡◌, Some, subst, arith, rules}
use Rattle.std.specs.declared.option.Option.{Option}
use Rattle.step_line.specs.declared.Mark.TheVariants as marks
use Rattle.step_line.specs.declared.Record.{Record}
use Rattle.step_line.specs.declared.Record.TheVariants as kinds
use Rattle.run_audit.specs.OnWay.{IsLooked, IsUnowed}
use Rattle.run_audit.proofs.NextOnWay.{later_next, reset_early}
use Rattle.run_audit.proofs.auditor.Auditor.next_item.Goals as goal

pub returns-in-Some-Mark-Cut-clause-goes_on : goal.returns-in-Some-Mark-Cut-clause-goes_on
returns-in-Some-Mark-Cut-clause-goes_on g c = c.cut.ensures.so_far (g.J.Source.state c.args.job.now) (g.C.Source.state c.args.console.now) (g.S.Source.state c.args.steps.now)

pub returns-in-Some-Mark-Reset-clause-goes_on : goal.returns-in-Some-Mark-Reset-clause-goes_on
returns-in-Some-Mark-Reset-clause-goes_on g c =
    broken_by c.args.self.now c.break_off.new.self (g.J.Source.state c.args.job.now) (g.C.Source.state c.args.console.now) (g.S.Source.state c.args.steps.now) c.break_off.ensures.sending c.break_off.ensures.listening
    c.break_off.ensures.recorded c.break_off.ensures.broken

pub returns-in-Some-Mark-Cut-clause-stands : goal.returns-in-Some-Mark-Cut-clause-stands
returns-in-Some-Mark-Cut-clause-stands g c = λ unowed done jt ct st short u looked n few.
    let m = c.in-Some-Mark-Cut in
    let next : c.args.record ≡ Some (kinds.Mark (marks.Cut m.k)) = search rules in
    let less = c.if-k-number.true in
    let number = c.number-number.ensures in
    c.cut.ensures.stands (subst (λ (o : Option Record). IsUnowed c.args.self.now.course o) next unowed) done (omega (arith, less, number)) (g.J.Source.state c.args.job.now) (g.C.Source.state c.args.console.now)
    (g.S.Source.state c.args.steps.now) jt ct st short u (subst (λ (o : Option Record). IsLooked c.args.self.now st u.records o) next looked) n few

pub returns-in-Some-Mark-Reset-clause-stands : goal.returns-in-Some-Mark-Reset-clause-stands
returns-in-Some-Mark-Reset-clause-stands g c = λ unowed done jt ct st short u looked n few.
    let m = c.in-Some-Mark-Reset in
    let b = c.break_off in
    let next : c.args.record ≡ Some (kinds.Mark (marks.Reset m.k)) = search rules in
    let is : IsLooked c.args.self.now st u.records (Some (kinds.Mark (marks.Reset m.k))) = subst (λ (o : Option Record). IsLooked c.args.self.now st u.records o) next looked in
    let sum = c.saturating_add.ensures in
    let less = c.if-saturating_add-number.true in
    let number = c.number-number.ensures in
    let most = c.number-number.type_inv in
    reset_early u m.k is.0 is.1 (grind (arith, sum, less, number, most))
    (record { sending = b.ensures.sending; listening = b.ensures.listening; recorded = b.ensures.recorded; course = b.ensures.others.0; answered = b.ensures.others.1; broken = b.ensures.at is.0 }) n few

pub returns-in_default-clause-stands : goal.returns-in_default-clause-stands
returns-in_default-clause-stands g c = λ unowed done.
    c.enter.ensures.stands (later_next c.args.self.now.course c.args.record done unowed ((λ k e. search rules), (λ k e. search rules)))
