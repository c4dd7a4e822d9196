use Rattle.std.proofs.Common.{◌≡◌, Some, None, sym, ap, ◌∙◌, subst}
use Rattle.std.specs.declared.option.Option.{Option}
use Rattle.step_line.specs.declared.Record.{Record}
use Rattle.run_texts.specs.Parts.{is_ending}
use Rattle.run_audit.specs.OnWay.{IsLooked}
use Rattle.run_audit.proofs.auditor.Auditor.takes_next.Goals as goal

pub returns-in-None-clause-so_far : goal.returns-in-None-clause-so_far
returns-in-None-clause-so_far c = λ job console steps jt ct st u. u

pub returns-in-Some-clause-stands : goal.returns-in-Some-clause-stands
returns-in-Some-clause-stands c = λ yes job console steps jt ct st short u looked.
    c.takes.ensures.stands yes job console steps jt ct st short u (subst (λ (o : Option Record). IsLooked c.args.self.now st u.records o) c.in-Some.is looked)

pub returns-in-Some-clause-owes : goal.returns-in-Some-clause-owes
returns-in-Some-clause-owes c = λ no r is owes.
    let same : r ≡ c.in-Some.«record» = (let e : Some r ≡ Some c.in-Some.«record» = sym is ∙ c.in-Some.is in cc) in
    ap is_ending same ∙ c.takes.ensures.leaves no owes

pub returns-in-None-clause-owes : goal.returns-in-None-clause-owes
returns-in-None-clause-owes c = λ no r is owes. absurd (let e : Some r ≡ None = sym is ∙ c.in-None.is in cc)
