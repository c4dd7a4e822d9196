use Rattle.std.proofs.Common.{◌≡◌, ◌∙◌, ℕ, ◌∷◌, ◌++◌, [], false, true, None, Some, refl, ap, subst, sym, rules}
use Rattle.std.specs.declared.option.Option.{Option}
use Rattle.step_line.specs.declared.Record.{Record}
use Rattle.step_line.specs.declared.Record.TheVariants as kinds
use Rattle.audit_texts.specs.SoFar.{IsReadTo, StepsSoFar}
use Rattle.run_audit.specs.Finding.{IsFound}
use Rattle.run_audit.specs.UnderWay.{IsNext}
use Rattle.run_audit.specs.declared.auditor.Auditor.{Auditor}
use Rattle.run_audit.specs.declared.auditor.Finding.TheVariants.{Misfit}
use Rattle.audit_texts.specs.declared.recorded.Recorded.{Recorded}
use Rattle.run_audit.proofs.EndFound.{all_fit, end_is_not_last, may_not_end, none_behind, was_broken}
use Rattle.audit_texts.proofs.StepsRead.{read_to}
use Rattle.run_audit.proofs.Under.{steps_break, steps_fit, not_broken}
use Rattle.run_audit.proofs.auditor.Auditor.finish_steps.Goals as goal

pub returns-in-Some-clause-found : goal.returns-in-Some-clause-found
returns-in-Some-clause-found g c =
    let a = c.args.self.now in
    let here = g.S.Source.state c.args.steps.now in
    steps_break a a here here c.in-Some.at refl refl (λ t told h. read_to a.recorded here t told h)

pub returns-then-not-may_end-clause-found : goal.returns-then-not-may_end-clause-found
returns-then-not-may_end-clause-found g c =
    let a = c.args.self.now in
    let here = g.S.Source.state c.args.steps.now in
    steps_break a c.may_end.new.self here here c.at.result c.may_end.ensures.sending c.may_end.ensures.listening
    (λ t told h. subst (λ (r : Recorded). IsReadTo r.reader.window here r.reader.place t) (sym c.may_end.ensures.recorded) (read_to a.recorded here t told h))

pub returns-in-Ok-false-clause-found : goal.returns-in-Ok-false-clause-found
returns-in-Ok-false-clause-found g c =
    let a = c.args.self.now in
    let here = g.S.Source.state c.args.steps.now in
    let yes : c.may_end.result ≡ true = search rules in
    let next : a.recorded.next ≡ Some kinds.End = subst (λ (o : Option Record). IsNext a o) (c.may_end.ensures.next yes) c.requires.next in
    let same = c.may_end.ensures.recorded in
    let b : Auditor = record c.may_end.new.self { recorded = c.ends.new.self } in
    steps_break a b here (g.S.Source.state c.ends.new.source) c.at-in-Ok-false.result c.may_end.ensures.sending c.may_end.ensures.listening
    (λ t told h. (c.in-Ok-false.ensures.ends t _
    (c.take.ensures.told kinds.End (ap (λ (r : Recorded). r.next) same ∙ next) here t told (subst (λ (r : Recorded). StepsSoFar r here t told) (sym same) h))).read)

pub returns-in-Ok-true-clause-found : goal.returns-in-Ok-true-clause-found
returns-in-Ok-true-clause-found g c =
    let a = c.args.self.now in
    let here = g.S.Source.state c.args.steps.now in
    let yes : c.may_end.result ≡ true = search rules in
    let next : a.recorded.next ≡ Some kinds.End = subst (λ (o : Option Record). IsNext a o) (c.may_end.ensures.next yes) c.requires.next in
    let same = c.may_end.ensures.recorded in
    let none : a.broken ≡ None = not_broken a.broken c.in_default.not-Some in
    let b : Auditor = record c.may_end.new.self { recorded = c.ends.new.self } in
    let may = c.may_end.ensures.ends yes in
    steps_fit a b here (g.S.Source.state c.ends.new.source) c.events-events.result c.may_end.ensures.sending c.may_end.ensures.listening none
    (record { ends = may.ends; told = may.told; few = may.few; audited = may.audited }) c.events-events.ensures
    (λ t told h.
    let e = c.in-Ok-true.ensures.ends t _ (c.take.ensures.told kinds.End (ap (λ (r : Recorded). r.next) same ∙ next) here t told (subst (λ (r : Recorded). StepsSoFar r here t told) (sym same) h)) in
    (e.read, e.all c.in-Ok-true.field-0-test))

pub returns-in-Some-clause-stands : goal.returns-in-Some-clause-stands
returns-in-Some-clause-stands g c = λ later answered all heard earlier before job console jt ct st short u read whole looked.
    let a = c.args.self.now in
    was_broken u c.args.record looked later answered a.sending job read all whole c.in-Some.at c.in-Some.is a (record { cuts = refl; number = refl; left = refl; halts = refl; answered = refl }) refl

pub returns-then-not-may_end-clause-stands : goal.returns-then-not-may_end-clause-stands
returns-then-not-may_end-clause-stands g c = λ later answered all heard earlier before job console jt ct st short u read whole looked.
    let a = c.args.self.now in
    let no : c.may_end.result ≡ false = search rules in
    let at : c.at.result ≡ a.recorded.at = c.at.ensures ∙ ap (λ (r : Recorded). r.at) c.may_end.ensures.recorded in
    subst (λ (n : ℕ). IsFound c.may_end.new.self jt ct st (Misfit n)) (sym at)
    (may_not_end u c.args.record looked later answered a.sending job read all whole (not_broken a.broken c.in_default.not-Some) (λ is clean few. c.may_end.ensures.no no is later.done answered all clean few)
    c.may_end.new.self c.may_end.ensures.course c.may_end.ensures.sending)

pub returns-in-Ok-false-clause-stands : goal.returns-in-Ok-false-clause-stands
returns-in-Ok-false-clause-stands g c = λ later answered all heard earlier before job console jt ct st short u read whole looked.
    let a = c.args.self.now in
    let here = g.S.Source.state c.args.steps.now in
    let yes : c.may_end.result ≡ true = search rules in
    let end = c.may_end.ensures.next yes in
    let same = c.may_end.ensures.recorded in
    let next : c.may_end.new.self.recorded.next ≡ Some kinds.End = ap (λ (r : Recorded). r.next) same ∙ subst (λ (o : Option Record). IsNext a o) end c.requires.next in
    let old = subst (λ (r : Recorded). StepsSoFar r here st u.records) (sym same) u.are_read.steps_so_far in
    let now = c.take.ensures.told kinds.End next here st u.records old in
    let none = none_behind c.may_end.new.self.recorded c.take.new.self here st u.records c.take.ensures.reader next old now in
    let may = c.may_end.ensures.ends yes in
    let b : Auditor = record c.may_end.new.self { recorded = c.ends.new.self } in
    subst (λ (n : ℕ). IsFound b jt ct st (Misfit n)) (sym c.at-in-Ok-false.ensures)
    (end_is_not_last u c.args.record looked later answered a.sending job read all whole (not_broken a.broken c.in_default.not-Some) end b.course may.ends may.told may.few c.ends.new.self.at
    (c.in-Ok-false.ensures.place st (u.records ++ kinds.End ∷ []) now none) (c.in-Ok-false.ensures.no c.in-Ok-false.field-0-test st (u.records ++ kinds.End ∷ []) now) b c.may_end.ensures.course c.may_end.ensures.sending)

pub returns-in-Ok-true-clause-stands : goal.returns-in-Ok-true-clause-stands
returns-in-Ok-true-clause-stands g c = λ later answered all heard earlier before job console jt ct st short u read whole looked.
    let a = c.args.self.now in
    let here = g.S.Source.state c.args.steps.now in
    let yes : c.may_end.result ≡ true = search rules in
    let same = c.may_end.ensures.recorded in
    let next : c.may_end.new.self.recorded.next ≡ Some kinds.End = ap (λ (r : Recorded). r.next) same ∙ subst (λ (o : Option Record). IsNext a o) (c.may_end.ensures.next yes) c.requires.next in
    let old = subst (λ (r : Recorded). StepsSoFar r here st u.records) (sym same) u.are_read.steps_so_far in
    let now = c.take.ensures.told kinds.End next here st u.records old in
    let may = c.may_end.ensures.ends yes in
    let b : Auditor = record c.may_end.new.self { recorded = c.ends.new.self } in
    let steps = (c.in-Ok-true.ensures.ends st (u.records ++ kinds.End ∷ []) now).all c.in-Ok-true.field-0-test in
    all_fit u c.args.record looked later answered a.sending job read all whole (not_broken a.broken c.in_default.not-Some) b.course may.ends may.told may.few may.audited c.events-events.result c.events-events.ensures steps
    b c.may_end.ensures.course c.may_end.ensures.sending
