use Rattle.std.proofs.Common.{refl}
use Rattle.step_line.specs.declared.Mark.TheVariants.{Cut as CutMark}
use Rattle.step_line.specs.declared.Record.TheVariants as kinds
use Rattle.run_audit.specs.declared.auditor.Auditor.{Auditor}
use Rattle.run_audit.proofs.Under.{record_told, broken_by}
use Rattle.run_audit.proofs.NextOnWay.{cut_refused, cut_taken}
use Rattle.run_audit.proofs.auditor.Auditor.cut.Goals as goal

pub returns-then-cut-clause-so_far : goal.returns-then-cut-clause-so_far
returns-then-cut-clause-so_far c = λ job console steps.
    let a = c.args.self.now in
    let b : Auditor = record a { course = c.cut.new.self; recorded = c.take.new.self } in
    record_told a b (kinds.Mark (CutMark c.args.k)) job console steps (λ t told h. h) (λ t told h. h) (λ t told h. c.take.ensures.told (kinds.Mark (CutMark c.args.k)) c.requires.next steps t told h) refl (c.cut.ensures.yes c.if-cut.true)

pub returns-clause-so_far : goal.returns-clause-so_far
returns-clause-so_far c = λ job console steps.
    broken_by c.args.self.now c.break_off.new.self job console steps c.break_off.ensures.sending c.break_off.ensures.listening c.break_off.ensures.recorded c.break_off.ensures.broken

pub returns-then-cut-clause-stands : goal.returns-then-cut-clause-stands
returns-then-cut-clause-stands c = λ unowed done before job console steps jt ct st short u looked n few.
    cut_taken u c.args.k looked.0 looked.1 done before c.cut.new.self c.cut.ensures.work c.cut.ensures.number c.take.new.self (λ t told h. c.take.ensures.told (kinds.Mark (CutMark c.args.k)) c.requires.next steps t told h)
    (c.cut.ensures.yes c.if-cut.true) (c.cut.ensures.point c.if-cut.true) (c.cut.ensures.unanswered c.if-cut.true) (c.cut.ensures.begins c.if-cut.true) n few

pub returns-clause-stands : goal.returns-clause-stands
returns-clause-stands c = λ unowed done before job console steps jt ct st short u looked n few.
    let b = c.break_off in
    cut_refused u c.args.k looked.0 looked.1 done before c.cut.new.self c.cut.ensures.work c.cut.ensures.number (c.cut.ensures.heard c.if-cut.false) c.cut.ensures.halts b.new.self
    (record { sending = b.ensures.sending; listening = b.ensures.listening; recorded = b.ensures.recorded; course = b.ensures.others.0; answered = b.ensures.others.1; broken = b.ensures.at looked.0 })
    (c.cut.ensures.here c.if-cut.false) n few
