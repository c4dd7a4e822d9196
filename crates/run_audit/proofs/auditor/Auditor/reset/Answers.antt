use Rattle.std.proofs.Common.{◌≡◌, ◌∙◌, true, false, subst, sym, ap, Some}
use Rattle.std.specs.declared.option.Option.{Option}
use Rattle.step_line.specs.declared.Mark.TheVariants as marks
use Rattle.step_line.specs.declared.Record.{Record}
use Rattle.step_line.specs.declared.Record.TheVariants as kinds
use Rattle.run_audit.specs.OnWay.{IsLater, IsLooked}
use Rattle.run_audit.proofs.LineNone.{breaks_later}
use Rattle.run_audit.proofs.Under.{broken_by, goes_on_by, not_broken}
use Rattle.run_audit.proofs.auditor.Auditor.reset.Goals as goal

pub returns-clause-goes_on : goal.returns-clause-goes_on
returns-clause-goes_on g c = λ console steps.
    broken_by c.args.self.now c.break_off.new.self (g.J.Source.state c.args.job.now) console steps c.break_off.ensures.sending c.break_off.ensures.listening c.break_off.ensures.recorded c.break_off.ensures.broken

pub returns-clause-stands : goal.returns-clause-stands
returns-clause-stands g c = λ later calm resets console steps jt ct st short u looks n done.
    let a = c.args.self.now in
    let r = c.in-Some.record in
    let e = c.break_off.ensures in
    let none = c.reset_behind.ensures.none (not_broken c.reset_behind.result c.in_default-reset_behind.not-Some) in
    breaks_later u c.break_off.new.self
    (record { sending = e.sending; listening = e.listening; recorded = e.recorded; course = e.others.0; answered = e.others.1; broken = e.at })
    n done r (subst (IsLater a.course) c.in-Some.is later) (subst (λ (o : Option Record). IsLooked a st u.records o) c.in-Some.is looks.0) a.listening.known resets looks.1 none
    (λ may. let no : false ≡ true = sym c.if-may_be_begun.false ∙ c.may_be_begun.ensures.1 may in cc)

pub returns-then-may_be_begun-clause-stands : goal.returns-then-may_be_begun-clause-stands
returns-then-may_be_begun-clause-stands g c = λ later calm resets.
    let a = c.args.self.now in
    let r = c.in-Some.record in
    goes_on_by c.begin_next.result (λ found on console steps jt ct st short u looks n done.
    on console steps jt ct st short u (subst (λ (o : Option Record). IsLooked a st u.records o) c.in-Some.is looks.0, looks.1) n done)
    (c.begin_next.ensures.stands r (subst (IsLater a.course) c.in-Some.is later) (c.may_be_begun.ensures.0 c.if-may_be_begun.true) calm resets)

pub returns-in-Some-reset_behind-clause-stands : goal.returns-in-Some-reset_behind-clause-stands
returns-in-Some-reset_behind-clause-stands g c = λ later calm resets.
    let a = c.args.self.now in
    let mark = c.in-Some-reset_behind.ensures.some in
    let is : c.args.record ≡ Some (kinds.Mark (marks.Reset c.in-Some-reset_behind.k)) = c.in-Some.is ∙ ap (λ (r : Record). Some r) mark.0 in
    goes_on_by c.reset_marked.result (λ found on console steps jt ct st short u looks n done.
    on console steps jt ct st short u (subst (λ (o : Option Record). IsLooked a st u.records o) is looks.0, looks.1) n done)
    (c.reset_marked.ensures.stands (subst (IsLater a.course) is later) mark.1 calm resets)
