use Rattle.std.proofs.Common.{refl, sym, ◌∙◌}
use Rattle.run_audit.specs.declared.auditor.Auditor.{Auditor}
use Rattle.run_audit.proofs.Under.{record_told, broken_by}
use Rattle.run_audit.proofs.LeadsOn.{record_leads, refused_leads}
use Rattle.run_audit.proofs.auditor.Auditor.takes.Goals as goal

pub returns-then-not-owes-clause-so_far : goal.returns-then-not-owes-clause-so_far
returns-then-not-owes-clause-so_far c = λ job console steps jt ct st u. u

pub returns-then-take-clause-so_far : goal.returns-then-take-clause-so_far
returns-then-take-clause-so_far c = λ job console steps.
    let a = c.args.self.now in
    let b : Auditor = record a { course = c.take.new.self; recorded = c.take-then-take.new.self } in
    record_told a b c.args.record.now job console steps (λ t told h. h) (λ t told h. h) (λ t told h. c.take-then-take.ensures.told c.args.record.now c.requires.next steps t told h) refl (c.take.ensures.yes c.if-take.true)

pub returns-else-take-clause-so_far : goal.returns-else-take-clause-so_far
returns-else-take-clause-so_far c = λ job console steps.
    broken_by c.args.self.now c.break_off.new.self job console steps c.break_off.ensures.sending c.break_off.ensures.listening c.break_off.ensures.recorded c.break_off.ensures.broken

pub returns-then-take-clause-stands : goal.returns-then-take-clause-stands
returns-then-take-clause-stands c = λ yes job console steps jt ct st short u looked.
    record_leads u c.take.new.self c.take-then-take.new.self c.args.record.now looked (sym c.is_ending.ensures ∙ c.if-is_ending.false) (λ t told h. c.take-then-take.ensures.told c.args.record.now c.requires.next steps t told h)
    (c.take.ensures.yes c.if-take.true) c.take.ensures.heard c.take.ensures.work c.take.ensures.line

pub returns-else-take-clause-stands : goal.returns-else-take-clause-stands
returns-else-take-clause-stands c = λ yes job console steps jt ct st short u looked.
    refused_leads u c.take.new.self c.break_off.new.self c.args.record.now looked (sym c.is_ending.ensures ∙ c.if-is_ending.false)
    (c.take.ensures.here c.if-take.false (c.owes.ensures.owes.0 c.if-not-owes.false) (sym c.is_ending.ensures ∙ c.if-is_ending.false))
    c.take.ensures.heard c.take.ensures.work c.take.ensures.line
    (record {
      sending = c.break_off.ensures.sending;
      listening = c.break_off.ensures.listening;
      recorded = c.break_off.ensures.recorded;
      course = c.break_off.ensures.others.0;
      answered = c.break_off.ensures.others.1;
      broken = c.break_off.ensures.at looked.0;
    })
